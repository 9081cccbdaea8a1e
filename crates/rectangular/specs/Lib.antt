-- Places in rectangular coordinates (RULES, "Places"), and a planet seen from Earth.
pub mod Vectors
pub mod Rectangular
pub mod Frames
pub mod Sight
pub mod Machine
