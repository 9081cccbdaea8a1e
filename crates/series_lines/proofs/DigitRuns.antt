-- A digit after a decimal's point that stands in a run goes on. Assumes nothing.
use mathlib.Core.Path.{◌≡◌, refl, ◌∙◌}
use mathlib.Core.Bool.{Bool, true, false}
use Prim.Native.Nat.{ℕ, zero, suc, ◌+◌, ◌*◌, ◌-◌, ◌≤◌, ◌<◌}
use native.Mathlib.Omega.{arith}
use borrow.Author.Tests.{ne_eqb, lt-ltb, le-ltb, ltb-true, ltb-false}
use lib.Dec.{ltb, eqb}
use lib.ListN.{length, get_or}
use mathlib.Core.List.{List}
use Rattle.std.specs.List.{slice_range}
use Rattle.std.proofs.lemmas.Grind.{common_steps}
use Rattle.series_lines.specs.declared.Line.{Line}
use Rattle.series_lines.specs.Grammar.{digit_0}
use Rattle.series_lines.specs.Lexer.{spot_point, spot_done, value_limit, takes_digit, put, with_digit, lex}
use Rattle.series_lines.specs.Machine.Parts.{run_end, Digits, none, more, DigitRun}
use Rattle.series_lines.proofs.Digits.{in_parts, at_last_part, first_digit}

-- A test that said no.
pub never : {A : Type 0} → false ≡ true → A
never e = let z : ◌≡◌ {A = ℕ} 0 1 = cc in absurd (omega arith)

-- How far a run goes.
below_zero : (n : ℕ) → run_end (suc n) ≡ spot_done - 1
unfolding run_end
below_zero n = rw (ne_eqb (suc n) 0 (λ e. omega (arith, e)))

pub short : (minus : ℕ) → run_end minus ≤ spot_done
unfolding run_end
short zero = omega arith
short (suc n) = omega (arith, below_zero n)

-- A digit before that goes on.
module _ (spot value d : ℕ) (v : value < value_limit) (h : spot_point ≤ spot) where
  last_too : (t : Bool) → ltb spot (spot_done - 1) ≡ t → spot < spot_done → takes_digit spot 0 value d ≡ true
  last_too true e k = in_parts spot 0 value d v h (ltb-true spot (spot_done - 1) e)
  last_too false e k =
      at_last_part spot 0 value d v (ltb-false spot (spot_done - 1) e) k ∙ first_digit (eqb 0 0) (value + d) refl

  goes_on : (minus : ℕ) → spot < run_end minus → takes_digit spot minus value d ≡ true
  unfolding run_end
  goes_on zero k = last_too (ltb spot (spot_done - 1)) refl k
  goes_on (suc n) k = in_parts spot (suc n) value d v h (omega (arith, below_zero n))

pub lex_part : (l : Line) (byte : ℕ) → spot_point ≤ l.spot → l.spot < run_end l.minus → l.value < value_limit → digit_0 ≤ byte
    → byte < digit_0 + 10 → put l (l.spot + 1) l.minus (10 * l.value + (byte - digit_0)) ≡ lex l byte
unfolding lex with_digit
lex_part l byte h k v f g =
    rw (
      le-ltb byte digit_0 f,
      lt-ltb byte (digit_0 + 10) g,
      goes_on l.spot l.value (byte - digit_0) v h l.minus k,
    )

-- One digit more, read from the part of the text that the run may take.
pub part_read : (text part : List ℕ) (from stop n : ℕ) → part ≡ slice_range text from stop → length part + from ≡ stop → stop ≤ length text
    → n < length part → get_or part n 0 ≡ get_or text (from + n) 0
part_read text part from stop n e l w h = grind (arith, common_steps)

pub digit_more : (text part : List ℕ) (from stop value n v d : ℕ) → part ≡ slice_range text from stop → length part + from ≡ stop
    → stop ≤ length text → n < length part → Digits text stop from value (from + n) v → v < value_limit → digit_0 ≤ get_or part n 0
    → get_or part n 0 < digit_0 + 10 → d ≡ get_or part n 0 - digit_0 → Digits text stop from value (from + (n + 1)) (10 * v + d)
digit_more text part from stop value n v d e l w h t b f g q =
    let r = part_read text part from stop n e l w h in
    let at : from + (n + 1) ≡ from + n + 1 = omega arith in
    rw (q, r, at) (more t (record { early = omega arith; small = b; least = rw r at f; most = rw r at g }))

-- The digits that were taken are no more than the run may have.
module _ {text : List ℕ} {from : ℕ} where
  digits_within : {stop value i v : ℕ} → Digits text stop from value i v → (from ≤ i) × (i - from ≤ stop - from)
  digits_within none = (omega arith, omega arith)
  digits_within (more d p) = let k = digits_within d in (omega (arith, k.0), omega (arith, k.0, p.early))

  pub run_within : {spot minus value next after : ℕ} → DigitRun text from spot minus value next after
      → (from ≤ next) × (next - from ≤ run_end minus - spot)
  run_within d = let k = digits_within d.digits in (k.0, omega (arith, k.1, d.ends.short))
