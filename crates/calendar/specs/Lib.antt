-- RULES, "Calendar": its constants, what the calls answer, what the published theorems say, and the same counted in naturals, for the code.
pub mod Constants
pub mod Calendar
pub mod Promises
pub mod Machine
