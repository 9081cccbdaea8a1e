-- The outcome of a list from what its two series are. Assumes nothing.
use mathlib.Core.Path.{◌≡◌, refl}
use mathlib.Core.List.{List}
use Prim.Native.Nat.{ℕ}
use Rattle.units.specs.declared.Instant.{Instant}
use Rattle.units.specs.declared.Refusal.{Refusal}
use Rattle.limits.specs.declared.Term.{Term}
use Rattle.limits.specs.Wide.{four_millennia}
use Rattle.packed.specs.Series.{Parsed, accepted, refused}
use Rattle.std.specs.Prelude.{Err}
use Rattle.sunlist.specs.SunList.{Outcome, of_blocks, of_series, answered, written}
use Rattle.sunlist.specs.Machine.Answers.{Answers}

-- The outcome in the three cases.
module _ (p e : Parsed) (t0 : Instant) (n k : ℕ) (out : List ℕ) where
  abbrev told : Outcome
  told = of_series four_millennia p e t0 n k

  pub planet_refused : (r : Refusal) → p ≡ refused r → Answers told out (Err r) out
  unfolding of_series answered written
  planet_refused r h = rw h (refl, refl)

  pub earth_refused : (planet : List (List Term)) (r : Refusal) → p ≡ accepted planet → e ≡ refused r → Answers told out (Err r) out
  unfolding of_series answered written
  earth_refused planet r h g = rw (h, g) (refl, refl)

  pub both_accepted : (planet earth : List (List Term)) → p ≡ accepted planet → e ≡ accepted earth → of_blocks four_millennia planet earth t0 n k ≡ told
  unfolding of_series
  both_accepted planet earth h g = rw (h, g)
