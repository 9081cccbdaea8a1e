-- RULES, "Units and rounding": each constant by its name. src/lib.rt has the same names, but for 2 pi, which no code needs.
use Rattle.std.specs.Prelude.{ℕ, ◌+◌, ◌*◌, ◌-◌, ◌^◌, Bool, ℤ, nat_abs, leb}

-- The unit of a cosine.
abbrev pub U : ℕ
U = 1000000000

-- Parts (10^-11 radian or AU) in a radian or an AU.
abbrev pub parts : ℕ
parts = 100000000000

-- A minute in milliseconds.
abbrev pub minute_ms : ℕ
minute_ms = 60000

-- T, a millennium in milliseconds; tau = t/T.
abbrev pub millennium : ℕ
millennium = 31557600000000

-- The greatest |tau|, and the greatest |t|: four millennia.
abbrev pub tau_limit : ℕ
tau_limit = 4

abbrev pub t_limit : ℕ
t_limit = tau_limit * millennium

-- Two millennia, up to which every series may be asked: the near range. What lies beyond is far.
abbrev pub near_tau : ℕ
near_tau = 2

abbrev pub near_limit : ℕ
near_limit = near_tau * millennium

-- |t| is at most so many milliseconds; t does not pass its limit; t is not far.
unfoldable pub within : ℕ → ℤ → Bool
within limit t = leb (nat_abs t) limit

abbrev pub in_limit : ℤ → Bool
in_limit t = within t_limit t

abbrev pub near : ℤ → Bool
near t = within near_limit t

-- The turn P and its quarter, in 10^-16 radian; how many of these a part has, and the step to the working angle w.
abbrev pub quarter : ℕ
quarter = 15707963267948966

abbrev pub turn : ℕ
turn = 4 * quarter

abbrev pub angle_per_part : ℕ
angle_per_part = 100000

abbrev pub angle_step : ℕ
angle_step = 10000000

-- 2 pi as the reference cosine has it, and four radians, in 10^-30 radian: a quarter of it is two_pi/four_radians. No turn of four whole quarters is
-- nearer to it than the one above (`nearest_turn`, proofs/Turn).
abbrev pub two_pi : ℕ
two_pi = 6283185307179586476925286766559

abbrev pub four_radians : ℕ
four_radians = 4 * 10 ^ 30

-- How far x units of an angle are from it, in 10^-30 radian, of which such a unit has 10^14.
abbrev pub from_two_pi : ℕ → ℕ
from_two_pi x = (x * 10 ^ 14 - two_pi) + (two_pi - x * 10 ^ 14)

-- RULES, "Series, as text and packed": what |a|, b and |c| of a term stay below, in parts.
abbrev pub a_limit : ℕ
a_limit = 100000 * parts

abbrev pub b_limit : ℕ
b_limit = 10 * parts

abbrev pub c_limit : ℕ
c_limit = 1000000 * parts

-- The terms of a block, the terms of a series, the total |a| of a block: at most so many.
abbrev pub block_limit : ℕ
block_limit = 4096

abbrev pub series_limit : ℕ
series_limit = 8192

abbrev pub total_limit : ℕ
total_limit = 100000 * parts

-- The blocks of a coordinate, one for each power, and of a series.
abbrev pub powers : ℕ
powers = 6

abbrev pub block_count : ℕ
block_count = 3 * powers

-- The promise on the cosine: the working one of a term is at most so many 1/U from the reference.
abbrev pub cosine_distance : ℕ
cosine_distance = 3

-- The coarseness of a coordinate: a term that is not constant weighs `coarse_share` for each part of |a| and U, times `coarse_tau` for
-- each power; a coordinate begins with `coarse_base`, and the sum is at most `coarse_limit`. The rule has a |tau| of its own, so that
-- what is accepted does not hang on the limit of t.
abbrev pub coarse_tau : ℕ
coarse_tau = 2

abbrev pub coarse_share : ℕ
coarse_share = 2 * cosine_distance

abbrev pub coarse_base : ℕ
coarse_base = 32 * U

abbrev pub coarse_limit : ℕ
coarse_limit = 200000000000000

-- What makes a series good for the wide range, beyond two millennia too: the total |a| of each block is at most `wide_total`, and the coarseness
-- rule holds with another |tau| and another base.
abbrev pub wide_total : ℕ
wide_total = 50000 * parts

abbrev pub wide_tau : ℕ
wide_tau = 4

abbrev pub wide_base : ℕ
wide_base = 342 * U
