-- `mending::counting::Counting::after` meets its contract. Assumes nothing.
use mathlib.Core.Path.{sym, ◌∙◌}
use Prim.Native.Nat.{◌+◌}
use native.Mathlib.Omega.{arith}
use Rattle.mending.proofs.Runs.{next_same, next_further}
use Rattle.mending.proofs.CountingPass.{counted_tab, counted_blank, counted_other, counted_plain, counted_feed, counted_blank_line}
use Rattle.mending.proofs.counting.Counting.after.Goals as goal

pub returns-in-9 : goal.returns-in-9
returns-in-9 c =
    rw (next_same c.args.self.from c.args.i c.requires.0.run.onward)
    (counted_tab _ c.args.self _ c.requires.0 c.requires.1 c.in-9.is)

pub returns-in-10 : goal.returns-in-10
returns-in-10 c =
    rw (c.no_run.ensures, next_further (c.args.i + 1) c.args.i (omega arith))
    (counted_feed _ c.args.self _ c.requires.0 c.requires.1 c.in-10.is c.if-self.true)

pub returns-in-10-2 : goal.returns-in-10-2
returns-in-10-2 c =
    rw (c.no_run-in-10-2.ensures, next_further (c.args.i + 1) c.args.i (omega arith))
    (counted_blank_line _ c.args.self _ c.requires.0 c.requires.1 c.in-10.is c.if-self.false)

pub returns-in_default : goal.returns-in_default
returns-in_default c =
    rw (next_same c.args.self.from c.args.i c.requires.0.run.onward)
    (counted_blank _ c.args.self _ c.requires.0 c.requires.1 (sym c.is_blank.ensures ∙ c.if-is_blank.true) (λ e. omega (arith, e)))

pub returns-in_default-2 : goal.returns-in_default-2
returns-in_default-2 c =
    let k = c.requires.0 in
    let w = c.past_plain-next.ensures in
    let f = next_further c.past_plain-next.result c.args.i (omega (arith, w.onward)) in
    rw (c.no_run-in_default-2.ensures, f)
    (counted_plain _ c.args.i c.args.self.from c.args.self.length _ _
    (counted_other _ c.args.self _ k c.requires.1 (sym c.is_blank.ensures ∙ c.if-is_blank.false) (λ e. omega (arith, e))) k.run.onward w)
