-- The constants of the rules, and the number and the figure of each refusal.
pub mod Units
pub mod Refusals
