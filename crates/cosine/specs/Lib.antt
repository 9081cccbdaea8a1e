-- RULES, "Working cosine and sums": the working cosine and sine, and a term of a series.
pub mod Cosine
pub mod Terms
pub mod Machine
