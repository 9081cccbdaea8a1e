-- RULES, "Working cosine and sums": the reference cosine of a term b, c of a series, each in parts, at t milliseconds.
use Rattle.std.specs.Prelude.{ℕ, ◌*◌, ◌≤◌, ◌<◌, ℤ, pos, nat_abs, ◌+ℤ◌, ◌*ℤ◌}
use Rattle.integers.specs.Fractions.{Fraction}
use Rattle.units.specs.Units.{parts, millennium, t_limit, b_limit, c_limit, cosine_distance}
use Rattle.cosine.specs.Terms.{term_cosine}
use Rattle.reference_cosine.specs.Reference.{reference_cosine, Within}

-- b, c and t are allowed.
pub record Allowed (b : ℕ) (c t : ℤ) : Type 0 where
  pub b_in : b < b_limit
  pub c_in : nat_abs c < c_limit
  pub t_in : nat_abs t ≤ t_limit

-- The reference cosine of b + c*tau, tau = t/T.
unfoldable pub term_reference : ℕ → ℤ → ℤ → Fraction
term_reference b c t = reference_cosine (pos b *ℤ pos millennium +ℤ c *ℤ t) (parts * millennium)

-- The promise on the cosine: of every allowed term (proofs/Promise) the working cosine is at most 3/U from the reference.
abbrev pub Promised : ℕ → ℤ → ℤ → Type 0
Promised b c t = Within cosine_distance (term_cosine b c t) (term_reference b c t)
