-- What is promised of a published file: the text that is cut out of it by hand (HandCut), the answer to every file (Decided), and that it is
-- the one that the text reader gives the hand-cut text (SameAsCut).
pub mod HandCut
pub mod Decided
pub mod SameAsCut
