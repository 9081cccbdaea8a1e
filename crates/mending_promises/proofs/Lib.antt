-- Laws of mending, each file on those above it. Steps: what the tests of one byte tell, and all ways that it can go. Listed: the list of changes, and
-- the text that it makes. Each: what is right for a byte, in words of lines. Walks: clean texts, byte by byte. Mended: a mended text is clean, and a
-- clean one stays. Accepted: so does one that the reader accepts. Lengths: how long the text and the list can be. Theorems: the promises; Calls: those
-- of a call.
pub mod Steps
pub mod Listed
pub mod Each
pub mod Walks
pub mod Mended
pub mod Accepted
pub mod Lengths
pub mod Theorems
pub mod Calls
