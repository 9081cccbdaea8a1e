-- Laws and theorems on what the programs share.
pub mod Clocks
