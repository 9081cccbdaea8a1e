-- What the proofs of the printer's functions use; what is promised of printed texts stands in the crate printer_promises.
pub mod PieceByPiece
pub mod DigitsWritten
pub mod LinePieces
pub mod TableText
pub mod Answers
