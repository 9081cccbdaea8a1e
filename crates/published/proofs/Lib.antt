-- Laws of the reader of published files that its functions need. Branches: each way through the reader's code; RowRuns: the bytes of a record in
-- a run.
pub mod Branches
pub mod RowRuns
