-- RULES, "Programs": what the program `list` prints.
pub mod Lines
pub mod List
pub mod Printed
