-- Lines of vectors/exact.txt, and what makes one right.
pub mod Lines
