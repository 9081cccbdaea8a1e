-- What a number past its range counts as, where tests call inner rules, and a vector and a sight as numbers.
pub mod Inner
