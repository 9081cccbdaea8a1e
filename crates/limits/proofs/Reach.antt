-- At which instants a series may be asked, and two series. Assumes nothing.
use mathlib.Core.Path.{◌≡◌, refl}
use mathlib.Core.Bool.{Bool, true, false, ◌&&◌, ◌||◌}
use mathlib.Core.List.{List}
use native.Mathlib.Omega.{arith}
use lib.IntN.{ℤ}
use Rattle.integers.proofs.Tests.{both}
use Rattle.units.specs.Units.{t_limit, near_limit, in_limit, near}
use Rattle.units.proofs.Limit.{size_within, within_size}
use Rattle.limits.specs.declared.Term.{Term}
use Rattle.limits.specs.Wide.{good_for_wide, reaches, four_millennia, both_asked}

-- A near instant is taken.
pub near_taken : (t : ℤ) → near t ≡ true → in_limit t ≡ true
near_taken t h = within_size t_limit t (let l = size_within near_limit t h in omega arith)

-- From what the walk says of a series.
pub reaches_is : (bs : List (List Term)) (t : ℤ) (wide : Bool) → wide ≡ good_for_wide bs → (near t || wide) ≡ reaches bs t
unfolding reaches
reaches_is bs t wide e = rw e

-- A near instant is within every series' reach; beyond it a series that is good is.
pub near_reaches : (bs : List (List Term)) (t : ℤ) → near t ≡ true → reaches bs t ≡ true
unfolding reaches
near_reaches bs t h = rw h

pub far_good : (bs : List (List Term)) (t : ℤ) → near t ≡ false → reaches bs t ≡ true → good_for_wide bs ≡ true
unfolding reaches
far_good bs t h e = rw h at e

-- Two series: both are asked where the instant is near or both are good.
module _ (planet earth : List (List Term)) (t : ℤ) where
  pub both_is : (p e : Bool) → p ≡ good_for_wide planet → e ≡ good_for_wide earth → (near t || (p && e)) ≡ both_asked four_millennia planet earth t
  unfolding both_asked reaches
  both_is p e i j = rw (← i, ← j) (go (near t) p e)
    where
      go : (n p e : Bool) → (n || (p && e)) ≡ ((n || p) && (n || e))
      go true p e = refl
      go false p e = refl

  pub each_asked : both_asked four_millennia planet earth t ≡ true → (reaches planet t ≡ true) × (reaches earth t ≡ true)
  unfolding both_asked
  each_asked h = both (reaches planet t) (reaches earth t) h

  pub near_both : near t ≡ true → both_asked four_millennia planet earth t ≡ true
  unfolding both_asked
  near_both h = rw (near_reaches planet t h, near_reaches earth t h)
