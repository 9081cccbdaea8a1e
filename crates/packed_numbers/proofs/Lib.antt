-- Laws of packed numbers. Decode: a number read a byte at a time; Usual: without a loop; Encode: written; Folding: signs; Shortest: read back
-- from its shortest form; Reading: where a reader stands after what it has read.
pub mod Decode
pub mod Usual
pub mod Encode
pub mod Folding
pub mod Shortest
pub mod Reading
