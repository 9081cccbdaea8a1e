-- Where coordinates are answered, the instant is within its limit, the bytes are a series, and this may be asked then. Assumes nothing.
use mathlib.Core.Path.{◌≡◌, refl}
use mathlib.Core.Bool.{Bool, true, false, cond}
use mathlib.Core.List.{List}
use Prim.Native.Nat.{ℕ, ◌≤◌}
use native.Mathlib.Omega.{arith}
use lib.IntN.{nat_abs}
use Rattle.units.specs.Units.{t_limit, in_limit}
use Rattle.units.proofs.Limit.{size_within}
use Rattle.units.specs.declared.Instant.{Instant}
use Rattle.units.specs.declared.Coordinates.{Coordinates}
use Rattle.units.specs.declared.Refusal.{Refusal}
use Rattle.units.specs.declared.Refusal.TheVariants.{PastLimit, TooFar}
use Rattle.limits.specs.declared.Term.{Term}
use Rattle.limits.specs.Wide.{reaches, four_millennia}
use Rattle.packed.specs.Series.{Parsed, parse, accepted, refused}
use Rattle.std.specs.Prelude.{Err, Ok, Result}
use Rattle.series.specs.Sums.{coordinates_by, coordinates_answer, coordinates, of_parsed}

pub record Answered (bytes : List ℕ) (t : Instant) (c : Coordinates) : Type 0 where
  pub in_time : nat_abs t.ms ≤ t_limit
  pub blocks : List (List Term)
  pub parsed : parse bytes ≡ accepted blocks
  pub reached : reaches blocks t.ms ≡ true
  pub value : coordinates t.ms blocks ≡ c

-- one test, and what stands behind it
chosen : (b : Bool) (x : Result Coordinates Refusal) (r : Refusal) (c : Coordinates) → cond b x (Err r) ≡ Ok c → (b ≡ true) × (x ≡ Ok c)
chosen true x r c e = (refl, e)
chosen false x r c e = let z : ◌≡◌ {A = ℕ} 0 1 = cc in absurd (omega arith)

parsed_at : (t : Instant) (p : Parsed) (c : Coordinates) → of_parsed four_millennia t p ≡ Ok c
    → (blocks : List (List Term)) × (p ≡ accepted blocks) × (reaches blocks t.ms ≡ true) × (coordinates t.ms blocks ≡ c)
unfolding of_parsed
parsed_at t (accepted blocks) c e =
    let h = chosen (reaches blocks t.ms) (Ok (coordinates t.ms blocks)) (TooFar t) c e in
    let f = h.1 in
    (blocks, refl, h.0, (cc))
parsed_at t (refused r) c e = let z : ◌≡◌ {A = ℕ} 0 1 = cc in absurd (omega arith)

pub answered : (bytes : List ℕ) (t : Instant) (c : Coordinates) → coordinates_answer bytes t ≡ Ok c → Answered bytes t c
unfolding coordinates_by
answered bytes t c e =
    let h = chosen (in_limit t.ms) (of_parsed four_millennia t (parse bytes)) (PastLimit t) c e in
    let p = parsed_at t (parse bytes) c h.1 in
    record { in_time = size_within t_limit _ h.0; blocks = p.0; parsed = p.1; reached = p.2; value = p.3 }
