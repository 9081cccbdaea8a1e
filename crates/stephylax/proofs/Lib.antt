-- The marked cases of the rules are right; promises of an answer hold of what C is shown.
pub mod Figures
pub mod Promises
