-- `series_lines::steps::end_count` meets its contract. Assumes nothing.
use mathlib.Core.Path.{sym, ◌∙◌}
use native.Mathlib.Omega.{arith}
use Rattle.series_lines.specs.Judge.{count_end}
use Rattle.series_lines.proofs.LineLimits.{count_limits}
use Rattle.series_lines.proofs.Branches.{fault_some, line_refused, line_full, line_next}
use Rattle.series_lines.proofs.steps.end_count.Goals as goal

pub returns-in-Err : goal.returns-in-Err
returns-in-Err g c =
    let r = c.args.r in
    line_refused _ r _ _ (count_end r) _ (rw c.tally-s.ensures at c.in-Err.ensures) (fault_some c.in-Err.fault) c.refused.ensures

pub overflow_add-r : goal.overflow_add-r
overflow_add-r g c = omega (arith, (count_limits _ _ _ (sym c.in_default.ensures)).0)

pub open_block-requires : goal.open_block-requires
open_block-requires g c = (count_limits _ _ _ (sym c.in_default.ensures)).1

pub returns-in-Err-put_count : goal.returns-in-Err-put_count
returns-in-Err-put_count g c =
    let r = c.args.r in
    let p = c.in-Err-put_count.ensures in
    line_full _ r _ _ (count_end r) (sym (rw c.tally-s.ensures at c.in_default.ensures)) _ _ p.1 _ p.0 c.refused-in-Err-put_count.ensures

pub returns-in-Ok : goal.returns-in-Ok
returns-in-Ok g c =
    let r = c.args.r in
    line_next _ r _ _ (count_end r) (sym (rw c.tally-s.ensures at c.in_default.ensures)) _ _ c.in-Ok.ensures.1 _ c.in-Ok.ensures.0
    (c.advanced.ensures ∙ rw (c.open_block.ensures, c.tally-s.ensures))
