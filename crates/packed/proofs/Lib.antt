-- Laws of packed series that the code needs. ReadCases, Accepting: one term; Walking, Blocks, Tabling, Widening, Unpacking: the walk that fills a table;
-- Tabled: what a filled table holds. What is promised of packed series stands in the crate packed_promises.
pub mod ReadCases
pub mod Accepting
pub mod Walking
pub mod Blocks
pub mod Tabling
pub mod Widening
pub mod Unpacking
pub mod Tabled
