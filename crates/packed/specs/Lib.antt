-- RULES, "Series, as text and packed", and what "Refusals and what they leave" says of packed input.
pub mod Series
pub mod Machine
