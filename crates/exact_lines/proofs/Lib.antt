-- The lines are right: in line with the Sun by `Decided`, which works the exact test with each figure once, in `Lines`; at an angle by `Angled`, which
-- has it from the working test, in `Sights`.
pub mod Decided
pub mod Lines
pub mod Angled
pub mod Sights
