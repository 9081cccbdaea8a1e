-- Whole numbers: order, quotients and remainders, sign and magnitude, floor root, fractions.
pub mod Order
pub mod Division
pub mod Signs
pub mod Root
pub mod Fractions
