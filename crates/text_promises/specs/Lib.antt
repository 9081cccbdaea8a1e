-- The answer to each text, over the grammar and the limits (Decided); the reader that only judges, held against the reader (Judged).
pub mod Decided
pub mod Judged
