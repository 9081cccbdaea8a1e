-- What the functions that write a run leave in the output, and what is left for two series and a window; `Printed`, what demand 3 says of all that is
-- printed; `Pairs`, the numbers of the runs that are left.
pub mod WrittenRuns
pub mod WrittenList
pub mod Pairs
pub mod Printed
