-- How large a usable sight is. Assumes nothing.
use mathlib.Core.Path.{◌≡◌}
use mathlib.Core.List.{List}
use Rattle.units.specs.declared.Instant.{Instant}
use Rattle.limits.specs.declared.Term.{Term}
use Rattle.series.specs.Sums.{coordinates}
use Rattle.rectangular.specs.declared.View.{View}
use Rattle.rectangular.specs.declared.Frame.TheVariants.{Catalogues}
use Rattle.std.specs.Prelude.{Some}
use Rattle.rectangular.proofs.Sights.{sight_in}
use Rattle.place.specs.Place.{sight_at}
use Rattle.place.specs.Machine.Reach.{Clear}

pub at_clear : (P E : List (List Term)) (t : Instant) (v : View) → sight_at P E t ≡ Some v → Clear v.vector v.distance
unfolding sight_at
at_clear P E t v e =
    let s = sight_in Catalogues (coordinates t.ms P) (coordinates t.ms E) v e in record { vector_in = s.0; distance_in = s.1 }
