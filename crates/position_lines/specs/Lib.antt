-- RULES, "Programs": what the program `position` prints.
pub mod Lines
pub mod Position
