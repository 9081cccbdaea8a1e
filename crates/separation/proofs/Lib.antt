-- The promise of the list for one minute. `Core` states it; the files before it are its ladder, in order.
-- `Form` to `BothWays`: vectors close to each other. `Units` to `Closeness`: working unit vectors against exact directions.
-- `Table`: the keep-outs from 60 to 2,702. `WholeTest`, `Whole`: fractions brought to one lower number. `Apart`, `Angles`: from coordinates to cosines.
pub mod Form
pub mod Transfer
pub mod Row
pub mod Lengths
pub mod LastSteps
pub mod BothWays
pub mod Units
pub mod Places
pub mod Closeness
pub mod Table
pub mod WholeTest
pub mod Whole
pub mod Apart
pub mod Angles
pub mod Joined
pub mod Core
pub mod Positive
pub mod Examples
