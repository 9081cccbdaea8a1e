-- The laws of decimals, in reading order; Theorems has what is published.
-- The digits that are written, and a sign before them.
pub mod Digits
-- A text that is copied into a lent slice.
pub mod Puts
-- The loop that reads digits, and the sign.
pub mod Taken
-- How the code reads a number is how a text is decided.
pub mod Numbers
-- The published theorems.
pub mod Theorems
