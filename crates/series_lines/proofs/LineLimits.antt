-- The limits of a line's term, judged over the magnitudes that the line holds; what a line that is not refused has. Assumes nothing.
use mathlib.Core.Path.{◌≡◌, sym, ◌∙◌}
use mathlib.Core.Bool.{true}
use Prim.Native.Nat.{ℕ, ◌<◌}
use native.Mathlib.Omega.{arith}
use borrow.Author.Tests.{ltb-true, eq-eqb, ne_eqb}
use lib.Dec.{ltb, eqb}
use lib.IntN.{nat_abs}
use Rattle.integers.proofs.Tests.{by_cases}
use Rattle.integers.proofs.Order.{nat_abs_sgn}
use Rattle.units.specs.Units.{block_count, a_limit, c_limit}
use Rattle.units.specs.Refusals.{over_limit, byte_after_end}
use Rattle.limits.specs.declared.Tally.{Tally}
use Rattle.limits.specs.Limits.{added, count_fits, term_may_come, term_refusal}
use Rattle.limits.specs.Machine.Magnitudes.{unsigned}
use Rattle.limits.proofs.Passing.{Passes, good_of, all_pass, not_refused}
use Rattle.limits.proofs.Magnitudes.{may_come_size, refusal_size, added_size}
use Rattle.series_lines.specs.declared.Line.{Line}
use Rattle.series_lines.specs.Judge.{signed, term_on_line, count_refusal, term_line_refusal}

abs_signed : (minus value : ℕ) → value ≡ nat_abs (signed minus value)
unfolding signed
abs_signed minus value = sym (nat_abs_sgn (ltb 0 minus) value)

module _ (f : ℕ) (s : Tally) (l : Line) where
  a_is : l.a ≡ nat_abs (term_on_line l).a
  a_is = abs_signed l.minusa l.a

  c_is : l.value ≡ nat_abs (term_on_line l).c
  c_is = abs_signed l.minus l.value

  pub line_added : added f s (unsigned l.a l.b l.value) ≡ added f s (term_on_line l)
  line_added = added_size f s (term_on_line l) a_is c_is

  -- The refusal, where b has no minus and where it has one.
  pub line_plain : l.minusb ≡ 0 → term_refusal f s (unsigned l.a l.b l.value) ≡ term_line_refusal f s l.minusb (term_on_line l)
  unfolding term_line_refusal
  line_plain e = refusal_size f s (term_on_line l) a_is c_is ∙ rw (eq-eqb l.minusb 0 e)

  pub line_minus : (l.minusb ≡ 0 → ⊥) → over_limit ≡ term_line_refusal f s l.minusb (term_on_line l)
  unfolding term_line_refusal
  line_minus h = rw (ne_eqb l.minusb 0 h)

  -- A line that is not refused.
  line_passes : term_line_refusal f s l.minusb (term_on_line l) ≡ 0 → Passes f s (term_on_line l)
  unfolding term_line_refusal
  line_passes e = by_cases (eqb l.minusb 0) (λ p. not_refused f s (term_on_line l) (rw p at e)) (λ p. absurd (over (rw p at e)))
    where
      over : over_limit ≡ 0 → ⊥
      over h = omega arith

  pub line_may_come : term_line_refusal f s l.minusb (term_on_line l) ≡ 0 → term_may_come f s (unsigned l.a l.b l.value) ≡ true
  line_may_come e = may_come_size f s (term_on_line l) a_is c_is ∙ all_pass f s (term_on_line l) (line_passes e)

  pub line_small : term_line_refusal f s l.minusb (term_on_line l) ≡ 0 → (l.a < a_limit) × (l.value < c_limit)
  line_small e =
      let g = good_of f s (term_on_line l) (line_passes e) in
      (rw a_is g.good_a.small, rw c_is g.good_c.small)

-- A count that is not refused.
pub count_limits : (k : ℕ) (s : Tally) (n : ℕ) → count_refusal k s n ≡ 0 → (k < block_count) × (count_fits s n ≡ true)
unfolding count_refusal
count_limits k s n e =
    by_cases (ltb k block_count)
    (λ p. by_cases (count_fits s n) (λ q. (ltb-true _ _ p, q)) (λ q. absurd (apart over_limit (λ x. omega (arith, x)) (rw (p, q) at e))))
    (λ p. absurd (apart byte_after_end (λ x. omega (arith, x)) (rw p at e)))
  where
    apart : (x : ℕ) → (x ≡ 0 → ⊥) → x ≡ 0 → ⊥
    apart x h = h
