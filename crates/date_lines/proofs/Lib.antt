-- The laws of the lines and of the replies, in reading order; Theorems has what is published.
-- The magnitudes of 64 bits, and the least number, whose magnitude only a minus may have.
pub mod LeastNumber
-- What the functions that write a reply leave in the buffer is the reply; the loop over a piece of the input, and the room that its replies take.
pub mod WrittenReplies
-- The same from a state, into a lent slice.
pub mod StateLoop
-- A line that is read as three numbers is a line of these numbers.
pub mod OnlyThree
-- The published theorems.
pub mod Theorems
