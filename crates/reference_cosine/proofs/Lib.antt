-- The working cosine against the reference one, up to the promise P1; then what the crates above cite.

-- The divisors of the reference's two series.
pub mod Divisors
-- A series nested as the working one is, over fractions: its range and its Lipschitz bound.
pub mod NestedSeries
-- The nested cosine and sine of a fraction: their Lipschitz bound, 61/50.
pub mod Lipschitz
-- The working series are within 1.003/U of the nested ones.
pub mod WorkingSeries
-- Two reductions of nearly the same angle, to one quarter or to two that lie side by side.
pub mod Reductions
-- Any angle and any fraction near it: all errors together.
pub mod AnyAngle
-- The nested series are the reference's.
pub mod PowerSeries
-- The reference's series are the plain power series, term by term.
pub mod Plain
-- A sine is the cosine three quarters on.
pub mod QuarterShift
-- Working and reference cosine of near angles, and the turn of the rules.
pub mod WithinReference
-- P1.
pub mod Promise
-- How great a cosine is.
pub mod Ranges
-- The cosine of a longitude.
pub mod Longitude
-- The reference cosine depends on the value of its fraction alone.
pub mod SameAngle
-- Cosine and sine change by no more than their angle. Nothing cites it yet; a list that steps over minutes far from the Sun would.
pub mod Slope
