-- RULES, "Sun list": the runs of listed minutes. Machine: what the loops over a window take of each.
pub mod Runs
pub mod Machine
