-- `counted` meets its contract. Assumes nothing.
use mathlib.Core.Path.{◌≡◌, sym, ◌∙◌}
use Rattle.arith.proofs.Signs.{back}
use Rattle.calendar.specs.Calendar.{first_bad}
use Rattle.calendar.specs.Machine.Shifted.{bad_field}
use Rattle.calendar.proofs.Bounds.{year_known}
use Rattle.calendar.proofs.FirstBad.{bad_law}
use Rattle.calendar.proofs.WholeDates.{counted_of, counted_where}
use Rattle.calendar.proofs.whole.counted.Goals as goal

pub judge-requires : goal.judge-requires
judge-requires c = (year_known c.args.year _ (rw (back _ c.ranges.year) at c.year_index.ensures)).small

pub returns-clause-judged : goal.returns-clause-judged
returns-clause-judged c =
    c.judge.ensures.judged
    ∙ rw (c.year_index.ensures, c.natural_or.ensures, c.natural_or-2.ensures, back _ c.ranges.year, back _ c.ranges.month, back _ c.ranges.day) (bad_law _ _ _)

pub returns-clause-counted : goal.returns-clause-counted
returns-clause-counted c =
    let a = c.args in
    let law : bad_field c.year_index.result c.natural_or.result c.natural_or-2.result ≡ first_bad a.year a.month a.day =
    rw (c.year_index.ensures, c.natural_or.ensures, c.natural_or-2.ensures, back _ c.ranges.year, back _ c.ranges.month, back _ c.ranges.day) (bad_law _ _ _) in
    counted_where _ _ _ _ _ c.judge.ensures.same (c.judge.ensures.judged ∙ law)
    (counted_of a.year a.month a.day _ _ _ (rw (back _ c.ranges.year) at c.year_index.ensures) (rw (back _ c.ranges.month) at c.natural_or.ensures)
    (rw (back _ c.ranges.day) at c.natural_or-2.ensures))
