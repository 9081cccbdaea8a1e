-- Laws of the definitions of specs/, and the two proof tools: `ring!` for identities, `cert!` for inequalities.
pub mod Pairs
pub mod Ring
pub mod Auto
pub mod Order
pub mod Division
pub mod Rounding
pub mod Root
pub mod Bounds
pub mod Near
pub mod Fractions
pub mod Tests
pub mod Examples
