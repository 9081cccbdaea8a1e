-- RULES, "Working cosine and sums": L, B, R of a packed series at an instant, the exact sums that they stand for, and the call's promise.
pub mod Sums
pub mod Exact
pub mod Call
pub mod Machine
