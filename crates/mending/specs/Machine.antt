-- What only the code needs: nothing here has to be believed.
pub mod Runs
pub mod Passes
pub mod Kinds
