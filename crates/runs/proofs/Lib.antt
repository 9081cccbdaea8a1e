-- The laws of the runs, in reading order.
-- The numbers of a window are its maximal runs, one after the other.
pub mod Runs
-- The same by places: run i is the numbers 2i and 2i + 1.
pub mod Maximal
-- What one turn of the two loops over a window does.
mod WindowLoops
