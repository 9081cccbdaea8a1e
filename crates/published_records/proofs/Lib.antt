-- Laws that the functions need. Places: where a column lies, and what a row does there; FreeColumns: bytes in free columns, gone over in a run;
-- ByteRuns: runs of bytes, one after the other; PartRuns: digits after a point in a run; IndentRuns: spaces before a figure in a run; FigureBytes: a byte of a figure as in a text.
pub mod FigureBytes
pub mod Places
pub mod FreeColumns
pub mod ByteRuns
pub mod PartRuns
pub mod IndentRuns
