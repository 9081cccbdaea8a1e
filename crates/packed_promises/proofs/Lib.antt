-- Laws of packed series that the code of `packed` does not need. Appending: more bytes after one; Packing: the packed form; Refusing: where a
-- refusal stands; Longest: how long a series is; Theorems: the promises; Shares: what was accepted with the former share of the coarseness rule.
pub mod Appending
pub mod Packing
pub mod Refusing
pub mod Longest
pub mod Theorems
pub mod Shares
