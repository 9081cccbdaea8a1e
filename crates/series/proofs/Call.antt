-- An answer that is the definition's keeps all that the call promises, by P2. Assumes nothing.
use mathlib.Core.Path.{◌≡◌, sym, ◌∙◌}
use mathlib.Core.List.{List}
use Prim.Native.Nat.{ℕ}
use Rattle.units.specs.declared.Instant.{Instant}
use Rattle.std.specs.Prelude.{Result}
use Rattle.units.specs.declared.Coordinates.{Coordinates}
use Rattle.units.specs.declared.Refusal.{Refusal}
use Rattle.series.specs.Sums.{coordinates_answer}
use Rattle.series.specs.Call.{CoordinatesPromised}
use Rattle.series.proofs.Promise.{P2}

pub coordinates_promised : (bytes : List ℕ) (t : Instant) (r : Result Coordinates Refusal) → r ≡ coordinates_answer bytes t → CoordinatesPromised bytes t r
coordinates_promised bytes t r e = record {
  answer = e;
  near_series = λ c h. let p = P2 bytes t c (sym e ∙ h) in record { blocks = p.0; series = p.1; near = p.2 };
}
