-- The records of a published file: what they are (Layout), and one of them a byte at a time (Rows); and what only the code needs (Machine).
pub mod Layout
pub mod Rows
pub mod Machine
