-- Laws of lists that several crates use.
pub mod Sets
