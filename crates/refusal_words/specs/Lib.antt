-- RULES, "Programs": refusals in words.
pub mod Words
