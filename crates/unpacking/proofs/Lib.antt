-- What is answered for a full buffer is the answer for the whole input.
pub mod Whole
