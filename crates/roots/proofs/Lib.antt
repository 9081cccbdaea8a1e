-- Laws of squares in two words and of roots found bit by bit; what is claimed of every bit.
pub mod TwoWords
pub mod Bits
pub mod Theorems
