-- RULES, "Places": nutation and obliquity.
pub mod Nutation
pub mod Machine
