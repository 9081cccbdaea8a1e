-- What the readers of series texts and of published files share: what a text is (Grammar), one line of it a byte at a time (Lexer), the
-- judgement of a line (Judge), what a reader holds (Reader), calls (Calls); and what only the code needs (Machine).
pub mod Grammar
pub mod Lexer
pub mod Judge
pub mod Reader
pub mod Calls
pub mod Machine
