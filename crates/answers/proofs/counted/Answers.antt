-- `answers::counted` meets its contract. Assumes nothing.
use mathlib.Core.Path.{ap, ◌∙◌}
use lib.IntN.{ℤ, pos}
use Rattle.arith.proofs.Signs.{back, ok}
use Rattle.answers.specs.Answers.{one_counted}
use Rattle.answers.proofs.counted.Goals as goal

pub returns : goal.returns
unfolding one_counted
returns c = ap (λ (z : ℤ). record { refusal = 0; figure = pos 0; value = z }) (back c.clip-value.result (ok c.clip-value.type_inv) ∙ c.clip-value.ensures)
