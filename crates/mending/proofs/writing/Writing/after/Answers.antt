-- `mending::writing::Writing::after` meets its contract. Assumes nothing.
use mathlib.Core.Path.{sym, ◌∙◌}
use native.Mathlib.Omega.{arith}
use Rattle.mending.proofs.WritingPass.{came_blank}
use Rattle.mending.proofs.Runs.{next_same, next_further}
use Rattle.mending.proofs.writing.Writing.after.Goals as goal

pub returns-in_default : goal.returns-in_default
returns-in_default c =
    rw (next_same c.args.self.from c.args.i c.requires.0.run.onward)
    (came_blank _ _ _ _ _ c.requires.0 c.requires.1 (sym c.is_blank.ensures ∙ c.if-is_blank.true))

pub returns-in-10 : goal.returns-in-10
returns-in-10 c =
    let l = c.end_line in
    rw (next_further l.result.from c.args.i l.ensures.1) l.ensures.0

pub put_word-requires : goal.put_word-requires
put_word-requires c = (
  c.requires.0,
  record { inside = c.requires.1; no_blank = sym c.is_blank.ensures ∙ c.if-is_blank.false; no_feed = λ e. omega (arith, e) },
)

pub returns-in_default-2 : goal.returns-in_default-2
returns-in_default-2 c =
    let l = c.put_word in
    rw (next_further l.result.from c.args.i l.ensures.1) l.ensures.0
