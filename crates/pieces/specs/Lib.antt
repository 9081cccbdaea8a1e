-- RULES, "Working cosine and sums": the sum of a block; and the tables that a piece of it is parted into.
pub mod Sums
pub mod Machine
