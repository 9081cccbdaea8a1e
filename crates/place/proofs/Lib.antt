-- Laws of the apparent place.
-- `Sights`: how large a usable sight is; `Sightings`: the order of the refusals; `Former`: the answers of before, within two millennia.
-- `Light`: the light time; `Equator`: the vector turned to the equator; `Directions`: ranges of directions and latitudes.
-- `Rebuilt`: the vector rebuilt from its two angles; `Casts`: casts to doubles; `Answers`: from what is seen to the answers.
pub mod Sights
pub mod Sightings
pub mod Former
pub mod Light
pub mod Equator
pub mod Directions
pub mod Rebuilt
pub mod Casts
pub mod Answers
