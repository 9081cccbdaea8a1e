-- Laws of the reader of published files that no code needs, each file on those above it. RowLaws: what bytes do to a row, in any record.
-- Stretches: what they do in each stretch of columns. GoodFields, Records: the bytes of good records are taken. WholeColumns,
-- Fields, RowLines, TakenStretches, TakenHeadings, TakenRecords: a record that was taken follows the layout, shown for whole columns and
-- for one field, for the line of a row by itself, for stretches of columns, and for records.
-- FieldProgress, Progress: what is taken so far begins a record.
pub mod RowLaws
pub mod Stretches
pub mod GoodFields
pub mod Records
pub mod WholeColumns
pub mod Fields
pub mod RowLines
pub mod TakenStretches
pub mod TakenHeadings
pub mod TakenRecords
pub mod FieldProgress
pub mod Progress
-- Lines: the reader a record at a time; Judged: what it judges of one. Beginnings, Halts, Decided: the answer to every file, and what it leaves.
-- Counted: files that can be counted. Theorems: the promises.
pub mod Lines
pub mod Judged
pub mod Beginnings
pub mod Halts
pub mod Decided
pub mod Counted
pub mod Theorems
-- Acceptance: what is accepted can be counted. CutLines: the lines that are cut out by hand. BothWalk, SameAsCut: the text reader
-- agrees over them.
pub mod Acceptance
pub mod CutLines
pub mod BothWalk
pub mod SameAsCut
