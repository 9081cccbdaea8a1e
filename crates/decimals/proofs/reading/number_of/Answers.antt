-- `number_of` meets its contract. Assumes nothing.
use Rattle.std.proofs.Common.{◌≡◌, ◌∙◌, ℕ, ◌<◌, ◌^◌, pos, ◌-ℤ◌, w64, to_z, of_z, true, false, drop, length, arith}
use Rattle.std.proofs.lemmas.Bool.Decides.{nat_tests}
use Rattle.std.proofs.lemmas.Slice.{between_to_end}
use mir.ValLaws.{to_z_pos}
use Rattle.arith.proofs.Signs.{back, minus}
use Rattle.integers.specs.Signs.{sgn}
use Rattle.integers.proofs.Order.{fits, nat_abs_sgn}
use Rattle.decimals.specs.Machine.Reading.{too_great, all_digits}
use Rattle.decimals.proofs.Numbers.{decided_as}
use Rattle.decimals.proofs.Taken.{signed_none, signed_some, number_minus, number_plain}
use Rattle.decimals.proofs.reading.number_of.Goals as goal

small : (v : ℕ) → v < too_great → v < 2 ^ 63
small v h = omega arith

-- a value below the limit in 64 bits, and with a minus
plain : (v : ℕ) → v < too_great → to_z w64 v ≡ sgn false v
unfolding sgn
plain v h = to_z_pos w64 v (small v h)

negated : (v : ℕ) → v < too_great → to_z w64 (of_z w64 (pos 0 -ℤ to_z w64 v)) ≡ sgn true v
negated v h = let e : pos 0 -ℤ to_z w64 v ≡ sgn true v = rw (to_z_pos w64 v (small v h)) (minus v) in
    rw e (back (sgn true v) (fits _ (rw (nat_abs_sgn true v) (small v h))))

pub returns-in_err-digits : goal.returns-in_err-digits
returns-in_err-digits c =
    let some : length c.args.text.now ≡ 0 → ⊥ = λ e. grind (arith, nat_tests) in
    let v : c.digits.result ≡ all_digits (drop 1 c.args.text.now) =
    rw (between_to_end c.args.text.now 1 (length c.args.text.now) (omega arith)) at c.digits.ensures.value in
    decided_as _ _
    (c.from_residual.ensures ∙ signed_none true _ _ c.in_err-digits.was v ∙ number_minus _ some c.if-text-eq-MINUS_SIGN.true)

pub returns-in_err-digits-2 : goal.returns-in_err-digits-2
returns-in_err-digits-2 c =
    let some : length c.args.text.now ≡ 0 → ⊥ = λ e. grind (arith, nat_tests) in
    decided_as _ _
    (c.from_residual-in_err-digits-2.ensures ∙ signed_none false _ _ c.in_err-digits-2.was c.digits-2.ensures.value
    ∙ number_plain _ some c.if-text-eq-MINUS_SIGN.false)

pub returns-then-text-eq-MINUS_SIGN : goal.returns-then-text-eq-MINUS_SIGN
returns-then-text-eq-MINUS_SIGN c =
    let some : length c.args.text.now ≡ 0 → ⊥ = λ e. grind (arith, nat_tests) in
    let v : c.digits.result ≡ all_digits (drop 1 c.args.text.now) =
    rw (between_to_end c.args.text.now 1 (length c.args.text.now) (omega arith)) at c.digits.ensures.value in
    let h = c.in_ok-digits.ensures.small in
    decided_as _ _
    (signed_some true _ _ _ _ c.in_ok-digits.was v (negated c.in_ok-digits.field-0 h) ∙ number_minus _ some c.if-text-eq-MINUS_SIGN.true)

pub returns : goal.returns
returns c =
    let some : length c.args.text.now ≡ 0 → ⊥ = λ e. grind (arith, nat_tests) in
    let h = c.in_ok-digits-2.ensures.small in
    decided_as _ _
    (signed_some false _ _ _ _ c.in_ok-digits-2.was c.digits-2.ensures.value (plain c.in_ok-digits-2.field-0 h)
    ∙ number_plain _ some c.if-text-eq-MINUS_SIGN.false)
