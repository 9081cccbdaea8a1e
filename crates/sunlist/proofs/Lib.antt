-- Laws of the Sun list.
-- Of the definitions: `Failing`, the first minute at which a test fails; `Limits`, the window's figures; `Answered`, what an answered list says;
-- `Minutes`, the decided minutes and their flags; `Near`, coordinates near exact sums at each minute; `Positive`, lower numbers of fractions;
-- `Demand`, demand 3; `Call`, the call's promise; `Former`, that near windows are answered as before.
-- Of the code: `Separations` and `Deciding`, one minute; `Windows`, the window; `Filling`, `Tabled` and `Listing`, the list; `Calling`, the call.
pub mod Failing
pub mod Limits
pub mod Answered
pub mod Minutes
pub mod Near
pub mod Positive
pub mod Demand
pub mod Call
pub mod Former
pub mod Separations
pub mod Deciding
pub mod Windows
pub mod Filling
pub mod Tabled
pub mod Listing
pub mod Calling
