-- RULES, "Programs": what the arguments of a program mean. Machine: how far they are counted.
pub mod Clock
pub mod Machine
