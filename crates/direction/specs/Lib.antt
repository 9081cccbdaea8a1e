-- RULES, "Places": the angle of a number of units, direction and latitude of a vector; and what the published theorems say.
pub mod Angles
pub mod Direction
pub mod Promises
