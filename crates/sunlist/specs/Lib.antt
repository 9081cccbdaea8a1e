-- The Sun list (RULES, "Sun list"): one minute decided, the list, what demand 3 says of the numbers written, and the call's promise.
pub mod Minute
pub mod SunList
pub mod Demand
pub mod Call
pub mod Machine
