-- The theorems about L, B and R. `Promise` states P2, `Call` has it of the call, `Former` that near answers are those of before; on the way there,
-- `Reach` has what a series keeps where it may be asked, `Ladder` the sums of powers of the greatest |tau|, `Close` and `Accuracy` the error of a
-- term, a block and the running sum, `Distance` the error in parts, `Accepted` what an accepted series keeps, `Answered` what an answer says
-- of its inputs. `Figures` has the marked figure, `Positive` that the exact sums are fractions. For the code: `Filled` is about the term
-- table, `Answering` about the answer, `Blocks`, `Stepping` and `Sizes` about the running sum.
mod Ladder
pub mod Accepted
mod Reach
mod Close
pub mod Positive
mod Accuracy
pub mod Sizes
mod Distance
mod Answered
pub mod Promise
mod Call
pub mod Former
pub mod Figures
mod Blocks
pub mod Filled
pub mod Answering
mod Stepping
