-- Which digits go on, by where they stand: one law for each part of a line, and that the value and the spot stay small. Assumes nothing.
use mathlib.Core.Path.{◌≡◌, refl}
use mathlib.Core.Bool.{Bool, true, false}
use Prim.Native.Nat.{ℕ, suc, ◌+◌, ◌-◌, ◌≤◌, ◌<◌}
use native.Mathlib.Omega.{arith, by_contra}
use borrow.Author.Tests.{le-leb, lt-leb, lt-ltb, le-ltb, ltb-true}
use lib.Dec.{eqb}
use Rattle.series_lines.specs.Grammar.{whole_digits, count_digits}
use Rattle.series_lines.specs.Lexer.{spot_decimal, spot_point, spot_done, spot_count, value_limit, whole_digit, takes_digit}

module _ (spot minus value d : ℕ) where
  -- No digit comes to a value that no line has.
  pub over_limit : value_limit ≤ value → takes_digit spot minus value d ≡ false
  unfolding takes_digit
  over_limit h = rw (le-leb value_limit value h)

  module _ (b : value < value_limit) where
    pub in_whole : spot < whole_digits → takes_digit spot minus value d ≡ whole_digit (eqb spot spot_decimal) value
    unfolding takes_digit
    in_whole h = rw (lt-leb value_limit value b, lt-ltb spot whole_digits h)

    pub before_point : whole_digits ≤ spot → spot < spot_point → takes_digit spot minus value d ≡ false
    unfolding takes_digit
    before_point l h = rw (lt-leb value_limit value b, le-ltb spot whole_digits l, lt-ltb spot spot_point h)

    pub in_parts : spot_point ≤ spot → spot < spot_done - 1 → takes_digit spot minus value d ≡ true
    unfolding takes_digit
    in_parts l h =
        rw (
          lt-leb value_limit value b,
          le-ltb spot whole_digits (omega arith),
          le-ltb spot spot_point l,
          lt-ltb spot (spot_done - 1) h,
        )

    pub at_last_part : spot_done - 1 ≤ spot → spot < spot_done → takes_digit spot minus value d ≡ whole_digit (eqb minus 0) (value + d)
    unfolding takes_digit
    at_last_part l h =
        rw (
          lt-leb value_limit value b,
          le-ltb spot whole_digits (omega arith),
          le-ltb spot spot_point (omega arith),
          le-ltb spot (spot_done - 1) l,
          lt-ltb spot spot_done h,
        )

    pub after_decimal : spot_done ≤ spot → spot < spot_count → takes_digit spot minus value d ≡ false
    unfolding takes_digit
    after_decimal l h =
        rw (
          lt-leb value_limit value b,
          le-ltb spot whole_digits (omega arith),
          le-ltb spot spot_point (omega arith),
          le-ltb spot (spot_done - 1) (omega arith),
          le-ltb spot spot_done l,
          lt-ltb spot spot_count h,
        )

    pub in_count : spot_count ≤ spot → spot < spot_count + count_digits → takes_digit spot minus value d ≡ whole_digit (eqb spot spot_count) value
    unfolding takes_digit
    in_count l h =
        rw (
          lt-leb value_limit value b,
          le-ltb spot whole_digits (omega arith),
          le-ltb spot spot_point (omega arith),
          le-ltb spot (spot_done - 1) (omega arith),
          le-ltb spot spot_done (omega arith),
          le-ltb spot spot_count l,
          lt-ltb spot (spot_count + count_digits) h,
        )

    pub after_count : spot_count + count_digits ≤ spot → takes_digit spot minus value d ≡ false
    unfolding takes_digit
    after_count l =
        rw (
          lt-leb value_limit value b,
          le-ltb spot whole_digits (omega arith),
          le-ltb spot spot_point (omega arith),
          le-ltb spot (spot_done - 1) (omega arith),
          le-ltb spot spot_done (omega arith),
          le-ltb spot spot_count (omega arith),
          le-ltb spot (spot_count + count_digits) l,
        )

-- A whole digit: the first one, or one after a number that is not 0.
pub first_digit : (first : Bool) (value : ℕ) → first ≡ true → whole_digit first value ≡ true
unfolding whole_digit
first_digit first value e = rw e

pub later_digit : (first : Bool) (value : ℕ) → 0 < value → whole_digit first value ≡ true
unfolding whole_digit
later_digit true value h = refl
later_digit false value h = lt-ltb 0 value h

pub after_value : (first : Bool) (value : ℕ) → first ≡ false → whole_digit first value ≡ true → 0 < value
unfolding whole_digit
after_value first value e t = ltb-true 0 value (rw e at t)

apart : (t : Bool) → t ≡ true → t ≡ false → ⊥
apart t p q = let z : ◌≡◌ {A = ℕ} 0 1 = cc in omega arith

-- A digit that goes on comes after a small value and stands before the end of a count.
pub small : (spot minus value d : ℕ) → takes_digit spot minus value d ≡ true → value < value_limit
small spot minus value d e =
    by_contra (suc value) value_limit (λ h. apart _ e (over_limit spot minus value d (omega arith)))

pub early : (spot minus value d : ℕ) → takes_digit spot minus value d ≡ true → spot < spot_count + count_digits
early spot minus value d e =
    by_contra (suc spot) (spot_count + count_digits) (λ h.
    apart _ e (after_count spot minus value d (small spot minus value d e) (omega arith)))
