-- Laws of the constants, units and refusals.
pub mod Turn
pub mod Limit
pub mod Refusals
