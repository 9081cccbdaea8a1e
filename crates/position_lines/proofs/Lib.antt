-- What the functions that write a place leave in the output, and what is left for two series and a time.
pub mod WrittenLines
pub mod WrittenPosition
