-- Laws that the functions and the reader need. Judged: a heading that is not refused, and the blocks without one; Zeros: their counts in the
-- output.
pub mod Judged
pub mod Zeros
