-- One minute decided (RULES, "Sun list"), by the working coordinates of planet and Earth there.
use Rattle.std.specs.Prelude.{cond, ℕ}
use Rattle.units.specs.declared.Coordinates.{Coordinates}
use Rattle.rectangular.specs.Vectors.{geocentric, sun, unit}
use Rattle.rectangular.specs.Rectangular.{place}
use Rattle.rectangular.specs.Sight.{distance, places_usable}
use Rattle.separation.specs.Listed.{squared_separation, threshold, listed}
use Rattle.sunlist.specs.declared.Figures.{Figures}
use Rattle.sunlist.specs.declared.Decision.{Decision}
use Rattle.sunlist.specs.declared.Decision.TheVariants.{Listed, Clear, Unusable}

-- The figures of a minute, for a keep-out of k arcminutes.
unfoldable pub figures : ℕ → Coordinates → Coordinates → Figures
figures k planet earth = record {
  separation = squared_separation (unit (sun (place earth))) (unit (geocentric (place planet) (place earth)));
  threshold = threshold k;
  distance = distance planet earth;
  planet = planet.radius;
  earth = earth.radius;
}

-- A minute whose places are usable is listed or clear; another is not decided.
unfoldable pub decide : ℕ → Coordinates → Coordinates → Decision
decide k planet earth =
    cond (places_usable planet earth) (cond (listed k planet earth) (Listed (figures k planet earth)) (Clear (figures k planet earth))) Unusable
