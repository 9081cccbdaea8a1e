-- Laws of the reader of texts that its functions need. Branches: each way through the reader's code; DigitRuns: digits after a point in a run.
-- What is promised of whole texts stands in the crate text_promises.
pub mod Branches
pub mod DigitRuns
