-- Laws of the working cosine and of a term, which the code and the crates above cite.

-- An angle moved by whole quarters.
pub mod Shifts
-- Whole turns come out of an angle.
pub mod WholeTurns
-- The figures of the rules.
pub mod Figures
-- The steps of the working cosine on natural numbers.
pub mod NaturalSteps
-- Whole numbers by ticks, but for whole turns.
pub mod Residues
-- The angle of a term from what is prepared for an instant.
pub mod TermAngle
-- The angle of a whole number of parts.
pub mod PartsAngle
-- The value of a term by the parity of its quarter.
pub mod TermValue
