-- Plain words as bytes, and whole numbers as decimals: how they are written, which texts are read as numbers, and what a function that
-- writes leaves in a lent buffer.
pub mod Texts
pub mod Decimals
pub mod Numerals
pub mod Writing
pub mod Machine
