-- `cosine::working::Reduced::sine` meets its contract. Assumes nothing.
use mathlib.Core.Path.{◌∙◌}
use lib.IntN.{neg_ℤ}
use Rattle.arith.proofs.Signs.{back, ok}
use Rattle.cosine.proofs.Shifts.{sine_shift}
use Rattle.cosine.proofs.working.Reduced.sine.Goals as goal

pub returns : goal.returns
returns c =
    back c.cosine_in.result (ok c.cosine_in.type_inv) ∙ c.cosine_in.ensures ∙ sine_shift neg_ℤ c.args.self.k c.args.self.k_in _ _
