-- Laws of places and vectors.
-- `Places`: components and lengths; `Usable`: the checks of R and D; `Radii`: places whose R are usable; `Turn`: the turn to the catalogues' frame.
-- `Sights`: a planet seen from Earth.
pub mod Places
pub mod Usable
pub mod Radii
pub mod Turn
pub mod Sights
