-- Splits: strings of which none is the beginning of another are told apart. Packed, Texts, Printed: each kind of string. Theorems: the statements.
pub mod Splits
pub mod Packed
pub mod Texts
pub mod Printed
pub mod Theorems
