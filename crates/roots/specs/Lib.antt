-- How the floor root is found. The floor root itself is defined in the crate `integers`.
pub mod Bits
pub mod Machine
