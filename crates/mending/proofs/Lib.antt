-- What the proofs of this crate's functions use, in reading order.
-- A run of blanks goes as a whole.
pub mod Runs
-- What one byte does in each pass.
pub mod CountingPass
pub mod WritingPass
-- What each way through the call answers and leaves.
pub mod Answers
