-- RULES, "The wide range": which series may be asked beyond two millennia, and the range of time of a rule.
use Rattle.std.specs.Prelude.{Bool, true, ◌&&◌, ◌||◌, List, [], ◌∷◌, ℕ, ◌+◌, leb, ℤ}
use Rattle.units.specs.Units.{in_limit, near, wide_total, wide_tau, wide_base, coarse_share, coarse_limit}
use Rattle.limits.specs.declared.Term.{Term}
use Rattle.limits.specs.Allowed.{total_of, coarseness_by, coordinate}

-- The total |a| of every block is at most so much.
unfoldable pub totals_within : ℕ → List (List Term) → Bool
totals_within most [] = true
totals_within most (ts ∷ blocks) = leb (total_of ts) most && totals_within most blocks

-- Coordinate q is not too coarse for the wide range.
unfoldable pub fine_enough : ℕ → List (List Term) → Bool
fine_enough q blocks = leb (coarseness_by wide_tau coarse_share 0 (coordinate q blocks) + wide_base) coarse_limit

-- A series is good for the wide range.
unfoldable pub good_for_wide : List (List Term) → Bool
good_for_wide blocks = totals_within wide_total blocks && (fine_enough 0 blocks && (fine_enough 1 blocks && fine_enough 2 blocks))

-- At t a series may be asked: every one within two millennia, beyond them one that is good for the wide range.
unfoldable pub reaches : List (List Term) → ℤ → Bool
reaches blocks t = near t || good_for_wide blocks

-- A range of time: the instants that are taken, else the refusal is 2; and those at which a series of these blocks may be asked, else it is 17.
pub record Range : Type 0 where
  pub taken : ℤ → Bool
  pub asked : List (List Term) → ℤ → Bool

-- The rule's range; and the one that it had before, where no series was ever asked whether it is good.
abbrev pub four_millennia : Range
four_millennia = record { taken = in_limit; asked = reaches }

abbrev pub two_millennia : Range
two_millennia = record { taken = near; asked = λ (blocks : List (List Term)) (t : ℤ). true }

-- Planet and Earth may both be asked at t.
unfoldable pub both_asked : Range → (planet earth : List (List Term)) → ℤ → Bool
both_asked range planet earth t = range.asked planet t && range.asked earth t
