-- Laws of the definitions of specs/.
pub mod Polynomials
pub mod Terms
pub mod Products
pub mod Sums
pub mod Figures
