-- RULES, "Working cosine and sums": the working cosine and sine of an angle, in U.
use Rattle.std.specs.Prelude.{List, [], ◌∷◌, ℕ, zero, suc, ◌*◌, ℤ, pos, neg_ℤ, ◌-ℤ◌, ◌*ℤ◌}
use Rattle.integers.specs.Division.{rounded, modulo}
use Rattle.units.specs.Units.{U, quarter, angle_step}

-- The nearest quarter, what the angle has beyond it, that in U, and its square in U; for any quarter Q and any number of angles in 1/U, the step.
unfoldable pub q_of : ℕ → ℤ → ℤ
q_of Q x = rounded x Q

unfoldable pub r_of : ℕ → ℤ → ℤ
r_of Q x = x -ℤ q_of Q x *ℤ pos Q

unfoldable pub w_of : ℕ → ℕ → ℤ → ℤ
w_of Q step x = rounded (r_of Q x) step

unfoldable pub y_of : ℤ → ℤ
y_of w = rounded (w *ℤ w) U

-- The divisors 2m(2m-1) of the even series and 2m(2m+1) of the odd one, m from 1 to 6.
abbrev pub evens : List ℕ
evens = 2 * 1 ∷ 4 * 3 ∷ 6 * 5 ∷ 8 * 7 ∷ 10 * 9 ∷ 12 * 11 ∷ []

abbrev pub odds : List ℕ
odds = 2 * 3 ∷ 4 * 5 ∷ 6 * 7 ∷ 8 * 9 ∷ 10 * 11 ∷ 12 * 13 ∷ []

-- The series by Horner's scheme, from the last divisor to the first, each quotient rounded.
unfoldable pub horner : ℤ → List ℕ → ℤ
horner y [] = pos U
horner y (d ∷ ds) = pos U -ℤ rounded (y *ℤ horner y ds) (U * d)

unfoldable pub even_part : ℤ → ℤ
even_part w = horner (y_of w) evens

unfoldable pub odd_part : ℤ → ℤ
odd_part w = rounded (w *ℤ horner (y_of w) odds) U

-- Cosine and sine in each of the four quarters, from the even and the odd part: for whole numbers, and for the fractions of the reference.
unfoldable pub cosine_by : {A : Type 0} → (A → A) → ℕ → A → A → A
cosine_by neg zero even odd = even
cosine_by neg (suc zero) even odd = neg odd
cosine_by neg (suc (suc zero)) even odd = neg even
cosine_by neg (suc (suc (suc k))) even odd = odd

unfoldable pub sine_by : {A : Type 0} → (A → A) → ℕ → A → A → A
sine_by neg zero even odd = odd
sine_by neg (suc zero) even odd = even
sine_by neg (suc (suc zero)) even odd = neg odd
sine_by neg (suc (suc (suc k))) even odd = neg even

unfoldable pub working_cosine : ℕ → ℕ → ℤ → ℤ
working_cosine Q step x = cosine_by neg_ℤ (modulo (q_of Q x) 4) (even_part (w_of Q step x)) (odd_part (w_of Q step x))

unfoldable pub working_sine : ℕ → ℕ → ℤ → ℤ
working_sine Q step x = sine_by neg_ℤ (modulo (q_of Q x) 4) (even_part (w_of Q step x)) (odd_part (w_of Q step x))

-- Of an angle in 10^-16 radian.
unfoldable pub cosine : ℤ → ℤ
cosine x = working_cosine quarter angle_step x

unfoldable pub sine : ℤ → ℤ
sine x = working_sine quarter angle_step x
