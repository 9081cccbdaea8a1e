-- `series_lines::parts::take_digits` meets its contract: each digit of the run goes on. Assumes nothing.
use native.Mathlib.Nat.{add-zero}
use native.Mathlib.Omega.{arith}
use Rattle.series_lines.specs.Machine.Parts.{none}
use Rattle.series_lines.proofs.DigitRuns.{digit_more}
use Rattle.series_lines.proofs.parts.take_digits.Goals as goal

pub returns-in_default : goal.returns-in_default
returns-in_default c = record { stop = 0; ends = record { within = omega arith; short = omega arith }; digits = none }

pub loop-n-init : goal.loop-n-init
loop-n-init c = rw add-zero none

pub loop-n-preserved : goal.loop-n-preserved
loop-n-preserved c =
    let r = c.in-Some.ensures.lookup.0 in
    let d = c.if-not-is_ascii_digit.ensures.cases in
    digit_more c.args.text.now c.in-Some.run'.now _ _ _ _ _ _ r.2 r.3 r.1 c.loop-n-test.true c.loop-n.invariant c.if-value-ge-VALUE_LIMIT.false
    d.0 (omega (arith, d.1)) c.from.ensures
