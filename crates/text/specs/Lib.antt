-- The reader of texts: the calls (Reader), over the lines of the crate series_lines; the reader that only judges (Judge); and what only the
-- code needs (Machine).
pub mod Reader
pub mod Judge
pub mod Machine
