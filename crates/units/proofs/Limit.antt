-- The limits of an instant, as their callers use them: what the test says of the size, and what a caller knows who asked and went on. Assumes nothing.
use mathlib.Core.Path.{◌≡◌, sym, ◌∙◌}
use mathlib.Core.Bool.{Bool, true, false, not}
use Prim.Native.Nat.{ℕ, ◌≤◌}
use lib.IntN.{ℤ, nat_abs}
use borrow.Author.Tests.{leb-true, le-leb, not-true, not-false}
use Rattle.units.specs.Units.{within}

-- Of the limit of t, of two millennia, of any.
module _ (limit : ℕ) (t : ℤ) where
  pub size_within : within limit t ≡ true → nat_abs t ≤ limit
  unfolding within
  size_within h = leb-true _ _ h

  pub within_size : nat_abs t ≤ limit → within limit t ≡ true
  unfolding within
  within_size h = le-leb _ _ h

  -- b is what the test answered, and the caller branched on its negation
  module _ (b : Bool) (e : b ≡ within limit t) where
    pub told_past : not b ≡ true → within limit t ≡ false
    told_past f = sym e ∙ not-true b f

    pub told_within : not b ≡ false → within limit t ≡ true
    told_within f = sym e ∙ not-false b f

    pub told_size : not b ≡ false → nat_abs t ≤ limit
    told_size f = size_within (told_within f)
