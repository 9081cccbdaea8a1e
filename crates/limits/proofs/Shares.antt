-- A series within the limits with one share in the coarseness rule is within them with every smaller share. Assumes nothing.
use mathlib.Core.List.{List, [], ◌∷◌}
use Prim.Native.Nat.{ℕ, suc, ◌+◌, ◌*◌, ◌^◌, ◌≤◌, ◌<◌}
use native.Mathlib.Nat.{mul-le-mul_left}
use native.Mathlib.Omega.{arith}
use Rattle.units.specs.Units.{U, coarse_tau}
use Rattle.limits.specs.declared.Term.{Term}
use Rattle.limits.specs.Allowed.{moving_total, moving_count, coarseness_by, coordinate, AllowedBy}

-- Its coarseness sum is not greater.
coarseness_less : (s s' : ℕ) → s ≤ s' → (i : ℕ) (blocks : List (List Term)) → coarseness_by coarse_tau s i blocks ≤ coarseness_by coarse_tau s' i blocks
unfolding coarseness_by
coarseness_less s s' h i [] = omega arith
coarseness_less s s' h i (ts ∷ blocks) =
    let m = mul-le-mul_left (moving_total ts) h in
    let b : s * moving_total ts + U * moving_count ts ≤ s' * moving_total ts + U * moving_count ts = omega (arith, m) in
    omega (arith, mul-le-mul_left (coarse_tau ^ i) b, coarseness_less s s' h (suc i) blocks)

pub share_less : (s s' : ℕ) → s ≤ s' → (blocks : List (List Term)) → AllowedBy s' blocks → AllowedBy s blocks
share_less s s' h blocks a =
    record {
      eighteen = a.eighteen;
      few = a.few;
      fits = a.fits;
      coarse = λ (q : ℕ) (l : q < 3). omega (arith, coarseness_less s s' h 0 (coordinate q blocks), a.coarse q l);
    }
