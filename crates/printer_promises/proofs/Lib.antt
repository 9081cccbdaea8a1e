-- Laws of printed texts that no code needs. DigitsAndNumbers: digits and the number that they write; Spacing, PlainLines, PlainSeries: plain
-- lines and blocks, and their numbers; Longest: how long a text is; PrintedSpacing: its spaces; Theorems: the promises.
pub mod DigitsAndNumbers
pub mod Spacing
pub mod PlainLines
pub mod PlainSeries
pub mod Longest
pub mod PrintedSpacing
pub mod Theorems
