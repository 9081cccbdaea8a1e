-- The exact test, that its fractions have positive lower numbers, and when a minute is listed (RULES, "Sun list").
pub mod Arcminutes
pub mod Exact
pub mod Positive
pub mod Listed
pub mod Machine
