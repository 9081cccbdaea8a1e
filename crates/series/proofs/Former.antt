-- Within two millennia the call answers as it did when time ended there, whether the series is good for the wide range or not. Assumes nothing.
use mathlib.Core.Path.{◌≡◌, refl}
use mathlib.Core.Bool.{true}
use mathlib.Core.List.{List}
use Prim.Native.Nat.{ℕ}
use Rattle.units.specs.Units.{near}
use Rattle.units.specs.declared.Instant.{Instant}
use Rattle.limits.specs.Wide.{four_millennia, two_millennia}
use Rattle.limits.proofs.Reach.{near_taken, near_reaches}
use Rattle.packed.specs.Series.{Parsed, accepted, refused, parse}
use Rattle.series.specs.Sums.{of_parsed, coordinates_by, coordinates_answer}

same : (t : Instant) (p : Parsed) → near t.ms ≡ true → of_parsed four_millennia t p ≡ of_parsed two_millennia t p
unfolding of_parsed
same t (accepted blocks) h = rw (near_reaches blocks t.ms h)
same t (refused r) h = refl

pub as_before : (bytes : List ℕ) (t : Instant) → near t.ms ≡ true → coordinates_answer bytes t ≡ coordinates_by two_millennia bytes t
unfolding coordinates_by
as_before bytes t h = rw (near_taken t.ms h, h) (same t (parse bytes) h)
