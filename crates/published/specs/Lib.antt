-- The reader of published files: the calls (Reader), and what only the code needs (Machine).
pub mod Reader
pub mod Machine
