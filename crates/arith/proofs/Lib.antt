-- Laws that callers of the functions cite.
pub mod Signs
pub mod Cells
pub mod Long
pub mod Naturals
pub mod Split
pub mod Ranges
