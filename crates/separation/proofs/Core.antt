-- The core of the Sun list's promise, free of series and of time: who is within k arcminutes by the exact test is listed for k,
-- and who is listed for k is within k + 2 by the exact test. Assumes nothing.
use mathlib.Core.Path.{◌≡◌}
use mathlib.Core.Bool.{true}
use Prim.Native.Nat.{ℕ, ◌+◌, ◌≤◌}
use lib.IntN.{pos}
use Rattle.units.specs.declared.Coordinates.{Coordinates}
use Rattle.rectangular.specs.Sight.{places_usable}
use Rattle.separation.specs.Arcminutes.{least_keep_out, greatest_keep_out}
use Rattle.separation.specs.Exact.{ExactCoordinates, WithinArcminutes}
use Rattle.separation.specs.Listed.{listed}
use Rattle.separation.specs.Machine.Near.{tolerance, NearCoordinates}
use Rattle.separation.proofs.Whole.{NearFigures, exact_figures}
use Rattle.separation.proofs.Apart.{apart_bd}
use Rattle.separation.proofs.Angles.{cosine_near, sine_near}
use Rattle.separation.proofs.Joined.{figures, exact_then_listed, listed_then_exact}

-- The figures made of them are then near too.
near : (c : Coordinates) (e : ExactCoordinates) → NearCoordinates c e → NearFigures (figures c) (exact_figures e)
unfolding figures exact_figures
near c e h = record {
  R_pos = h.radius.lower_g;
  R = apart_bd (pos tolerance) c.radius e.radius h.radius;
  cosB = cosine_near c.latitude e.latitude h.latitude_limit h.latitude;
  sinB = sine_near c.latitude e.latitude h.latitude_limit h.latitude;
  cosL = cosine_near c.longitude e.longitude h.longitude_limit h.longitude;
  sinL = sine_near c.longitude e.longitude h.longitude_limit h.longitude;
}

-- Of any two bodies whose working places are usable, and any keep-out k that the list takes:
pub within_is_listed : (planet earth : Coordinates) (planet* earth* : ExactCoordinates) → NearCoordinates planet planet* → NearCoordinates earth earth*
    → places_usable planet earth ≡ true
    → (k : ℕ) → least_keep_out ≤ k → k ≤ greatest_keep_out → WithinArcminutes k planet* earth* → listed k planet earth ≡ true
within_is_listed planet earth planet* earth* hp he ok k h l t =
    exact_then_listed planet earth planet* earth* (near planet planet* hp) (near earth earth* he) ok k h l t

pub listed_is_within : (planet earth : Coordinates) (planet* earth* : ExactCoordinates) → NearCoordinates planet planet* → NearCoordinates earth earth*
    → places_usable planet earth ≡ true
    → (k : ℕ) → least_keep_out ≤ k → k ≤ greatest_keep_out → listed k planet earth ≡ true → WithinArcminutes (k + 2) planet* earth*
listed_is_within planet earth planet* earth* hp he ok k h l t =
    listed_then_exact planet earth planet* earth* (near planet planet* hp) (near earth earth* he) ok k h l t
