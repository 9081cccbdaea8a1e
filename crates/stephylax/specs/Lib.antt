-- The marked cases of the rules, and the promises of the C calls for coordinates and for a list. What each function of the C interface answers
-- is in the crate answers.
pub mod Marked
pub mod Promises
