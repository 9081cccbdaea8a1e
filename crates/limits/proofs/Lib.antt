-- Laws of the limits, each file on those above it. Passing, Magnitudes: what the tests of the code say. Terms, Coarseness,
-- Series: what is judged one by one, and the limits of blocks, of coordinates and of a whole series. Shares: the coarseness rule with a
-- smaller share. WideSums: the wide rule, block by block and over the whole. Reach: at
-- which instants series may be asked.
pub mod Passing
pub mod Magnitudes
pub mod Terms
pub mod Coarseness
pub mod Series
pub mod Shares
pub mod WideSums
pub mod Reach
