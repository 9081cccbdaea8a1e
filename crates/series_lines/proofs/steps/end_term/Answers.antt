-- `series_lines::steps::end_term` meets its contract. Assumes nothing.
use mathlib.Core.Path.{sym, ◌∙◌}
use native.Mathlib.Omega.{arith}
use Rattle.series_lines.specs.Judge.{tally, term_end}
use Rattle.series_lines.specs.Reader.{in_line}
use Rattle.series_lines.proofs.LineLimits.{line_added, line_may_come, line_small}
use Rattle.series_lines.proofs.Branches.{fault_some, line_refused, line_full, line_next}
use Rattle.series_lines.proofs.steps.end_term.Goals as goal

pub returns-in-Err : goal.returns-in-Err
returns-in-Err g c =
    let r = c.args.r in
    let l = c.args.l in
    line_refused _ r _ _ (term_end (in_line r l r.at)) _ (rw (c.tally-s.ensures, c.block_factor-f.ensures.0, c.saturating_sub.ensures) at c.in-Err.ensures)
    (fault_some c.in-Err.fault) c.refused.ensures

pub put_term-requires : goal.put_term-requires
put_term-requires g c =
    let s = line_small _ _ c.args.l (sym c.in_default.ensures) in
    omega (arith, s.0, s.1)

pub add_term-requires : goal.add_term-requires
add_term-requires g c = rw c.sizes.ensures (c.block_factor-f.ensures.1, line_may_come _ _ c.args.l (sym c.in_default.ensures))

pub returns-in-Err-put_term : goal.returns-in-Err-put_term
returns-in-Err-put_term g c =
    let r = c.args.r in
    let l = c.args.l in
    let e = rw (c.tally-s.ensures, c.block_factor-f.ensures.0, c.saturating_sub.ensures) at c.in_default.ensures in
    line_full _ r _ _ (term_end (in_line r l r.at)) (sym e) _ _ c.in-Err-put_term.ensures.1 _ c.in-Err-put_term.ensures.0 c.refused-in-Err-put_term.ensures

pub returns-in-Ok : goal.returns-in-Ok
returns-in-Ok g c =
    let r = c.args.r in
    let l = c.args.l in
    let e = rw (c.tally-s.ensures, c.block_factor-f.ensures.0, c.saturating_sub.ensures) at c.in_default.ensures in
    let t =
    rw (c.sizes.ensures, c.tally-s.ensures, c.block_factor-f.ensures.0, c.saturating_sub.ensures) at c.add_term.ensures
    ∙ line_added _ (tally r) l in
    line_next _ r _ _ (term_end (in_line r l r.at)) (sym e) _ _ c.in-Ok.ensures.1 _ c.in-Ok.ensures.0 (c.advanced.ensures ∙ rw (c.saturating_sub-in-Ok.ensures, t))
