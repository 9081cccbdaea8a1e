-- RULES, "Series, as text and packed": the limits of a series.
pub mod Limits
pub mod Allowed
pub mod Wide
pub mod Machine
