-- The judgement of a record of a published file; and what only the code needs (Machine).
pub mod Judge
pub mod Machine
