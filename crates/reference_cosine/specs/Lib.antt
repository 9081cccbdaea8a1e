-- RULES, "Working cosine and sums": the reference cosine and sine, and those of a term of a series.
pub mod Reference
pub mod Terms
pub mod Machine
