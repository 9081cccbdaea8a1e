-- `series_lines::judge::term_line_refusal` meets its contract. Assumes nothing.
use mathlib.Core.Path.{◌∙◌}
use native.Mathlib.Omega.{arith}
use Rattle.series_lines.proofs.LineLimits.{line_plain, line_minus}
use Rattle.series_lines.proofs.judge.term_line_refusal.Goals as goal

pub returns-then-l-ne0 : goal.returns-then-l-ne0
returns-then-l-ne0 c = line_minus c.args.f c.args.s c.args.l (λ e. omega (arith, e))

pub returns : goal.returns
returns c = rw c.sizes.ensures at c.judge_term.ensures ∙ line_plain c.args.f c.args.s c.args.l (omega arith)
