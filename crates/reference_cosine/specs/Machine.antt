-- What only the proofs need: nothing here has to be believed.
pub mod Angles
