-- Laws of lines that the functions need. Digits: which digits go on; DigitRuns: digits after a point in a run; LineLimits: a line's numbers;
-- WrittenTerm: its bytes; Branches: each way through the steps at the end of a line. Calls: how an input is cut into calls does not matter, for any reader.
pub mod Digits
pub mod DigitRuns
pub mod LineLimits
pub mod WrittenTerm
pub mod Branches
pub mod Calls
