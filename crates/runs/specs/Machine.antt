-- What only the code needs, and nobody has to believe.
pub mod Ends
