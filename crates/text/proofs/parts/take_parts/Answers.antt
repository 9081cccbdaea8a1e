-- `text::parts::take_parts` meets its contract: what is left to run gives what was left before. Assumes nothing.
use native.Mathlib.Omega.{arith}
use Rattle.text.specs.Machine.Parts.{AfterPoint}
use Rattle.series_lines.proofs.DigitRuns.{short, run_within}
use Rattle.text.proofs.DigitRuns.{run_few, parted_done, as_it_stands}
use Rattle.text.proofs.parts.take_parts.Goals as goal

pub returns-then-not-after_point : goal.returns-then-not-after_point
returns-then-not-after_point c = as_it_stands _ _ _

pub overflow_sub-n : goal.overflow_sub-n
overflow_sub-n c = (run_within c.take_digits-digits.ensures).0

pub overflow_add-line : goal.overflow_add-line
overflow_add-line c = omega (arith, (run_within c.take_digits-digits.ensures).1, short c.args.r.line.minus)

pub overflow_add-r : goal.overflow_add-r
overflow_add-r c =
    let stands : AfterPoint c.args.r = c.after_point.ensures c.if-not-after_point.false in
    omega (arith, run_few c.args.r _ _ stands c.take_digits-digits.ensures, stands.counts)

pub returns : goal.returns
returns c =
    rw c.in_line.ensures
    (parted_done c.args.r _ _ (c.after_point.ensures c.if-not-after_point.false) c.take_digits-digits.ensures)
