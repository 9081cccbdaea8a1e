-- The table of nutation: RULES, "Places".
pub mod Table
pub mod Machine
