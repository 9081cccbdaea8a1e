-- Laws of the reader of texts that no code needs, each file on those above it. GoodLines, GoodTexts: what follows the grammar is taken; OneByte,
-- TakenTerms, TakenCounts, TakenTexts: what is taken follows the grammar. Lines, Verdicts: the reader a line at a time, and what it judges of
-- one. Prefixes, Feeds: refusal 3. Counted, Beginnings, Halts, Decided: the answer to every text, and what it leaves. Acceptance: when a text
-- is accepted. Theorems: the promises; Series: the bytes as a packed series; Shares: what was accepted with the former share of the coarseness
-- rule. Room, Judging: the room that a text needs, and the reader that only judges; Judgement: that it says what the reader says.
pub mod GoodLines
pub mod OneByte
pub mod TakenTerms
pub mod TakenCounts
pub mod Lines
pub mod Verdicts
pub mod TakenTexts
pub mod GoodTexts
pub mod Counted
pub mod Beginnings
pub mod Prefixes
pub mod Halts
pub mod Decided
pub mod Feeds
pub mod Acceptance
pub mod Theorems
pub mod Series
pub mod Shares
pub mod Room
pub mod Judging
pub mod Judgement
