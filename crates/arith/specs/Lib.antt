-- What the contracts cite is in the crate `integers`, but for this.
pub mod Naturals
pub mod Machine
