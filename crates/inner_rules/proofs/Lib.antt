-- Numbers that are held in their range, and a term's value.
pub mod Ranges
pub mod Values
