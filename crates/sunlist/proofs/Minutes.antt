-- At a minute that is not bad both places are usable, and its flag says whether it is listed. Assumes nothing.
use mathlib.Core.Path.{◌≡◌, refl, sym, subst}
use mathlib.Core.Bool.{Bool, true, false, cond}
use Prim.Native.Nat.{ℕ, zero, suc, ◌+◌, ◌<◌}
use native.Mathlib.Omega.{arith}
use Rattle.units.specs.declared.Coordinates.{Coordinates}
use Rattle.rectangular.specs.Sight.{places_usable}
use Rattle.separation.specs.Listed.{listed}
use Rattle.runs.proofs.Runs.{FlagsOf}
use Rattle.sunlist.specs.declared.Figures.{Figures}
use Rattle.sunlist.specs.declared.Decision.{Decision}
use Rattle.sunlist.specs.declared.Decision.TheVariants.{Listed, Clear, Unusable}
use Rattle.sunlist.specs.Minute.{figures, decide}
use Rattle.sunlist.specs.SunList.{good, flag_of, window_flags}

-- A decision that is good is of usable places, and its flag is whether the minute is listed.
good_then : (u l : Bool) (f : Figures) → good (cond u (cond l (Listed f) (Clear f)) Unusable) ≡ true → (u ≡ true)
    × (flag_of (cond u (cond l (Listed f) (Clear f)) Unusable) ≡ l)
unfolding good
good_then true true f e = (refl, refl)
good_then true false f e = (refl, refl)
good_then false l f e = let z : ◌≡◌ {A = Bool} false true = e in let w : ◌≡◌ {A = ℕ} 0 1 = cc in absurd (omega arith)

pub good_usable : (k : ℕ) (planet earth : Coordinates) → good (decide k planet earth) ≡ true → places_usable planet earth ≡ true
unfolding decide
good_usable k planet earth e = (good_then (places_usable planet earth) (listed k planet earth) (figures k planet earth) e).0

pub good_flag : (k : ℕ) (planet earth : Coordinates) → good (decide k planet earth) ≡ true → flag_of (decide k planet earth) ≡ listed k planet earth
unfolding decide
good_flag k planet earth e = (good_then (places_usable planet earth) (listed k planet earth) (figures k planet earth) e).1

-- The flags of n minutes are those of a function that tells each one's.
pub flags_are : (at : ℕ → Decision) (lists : ℕ → Bool) (j n : ℕ) → ((i : ℕ) → i < n → flag_of (at (j + i)) ≡ lists (j + i))
    → FlagsOf lists (j + n) j (window_flags at j n)
unfolding window_flags FlagsOf
flags_are at lists j zero h = omega arith
flags_are at lists j (suc n) h = (
  sym (rw (zero_more j) at (h 0 (omega arith))),
  subst (λ (e : ℕ). FlagsOf lists e (suc j) (window_flags at (suc j) n)) (shift j n)
      (flags_are at lists (suc j) n (λ i l. rw (← shift j i) at (h (suc i) (omega arith)))),
)
  where
    zero_more : (j : ℕ) → j + 0 ≡ j
    zero_more j = omega arith

    shift : (j i : ℕ) → suc j + i ≡ j + suc i
    shift j i = omega arith
