-- RULES, "Series, as text and packed": which texts are plain.
pub mod Plain
