-- The sum of a block in pieces: `Reading` is about a term of the term table, `Filling` and `Parting` about the two tables of a piece,
-- `Summing` about what is summed and what is left, `Sizes` and `Adding` about every sum's size.
pub mod Sizes
mod Summing
pub mod Adding
mod Reading
mod Filling
mod Parting
