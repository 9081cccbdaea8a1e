-- `cosine::term::Prepared::reduced_term` meets its contract. Assumes nothing.
use mathlib.Core.Path.{ap, ◌∙◌}
use native.Mathlib.Omega.{arith}
use lib.IntN.{neg_ℤ, nat_abs}
use Rattle.arith.proofs.Signs.{back, ok}
use Rattle.cosine.proofs.TermValue.{reduced_is}
use Rattle.cosine.proofs.term.Prepared.reduced_term.Goals as goal

pub returns : goal.returns
returns c =
    let a = back c.args.a c.ranges.a in
    let r = back c.signed_amplitude.result (ok c.signed_amplitude.type_inv) in (
      reduced_is c.args.a c.args.b c.args.c c.args.self.t _ c.angle-x.result c.quarters-q.result c.biased_angle.result
          (rw (back c.args.c c.ranges.c) at c.angle-x.ensures.0) c.quarters-q.ensures c.biased_angle.ensures.0
          (λ h. r ∙ c.signed_amplitude.ensures.0 h ∙ a) (λ h. r ∙ c.signed_amplitude.ensures.1 h ∙ ap neg_ℤ a),
      ap nat_abs r ∙ c.signed_amplitude.ensures.2 ∙ ap nat_abs a,
      omega arith,
      c.biased_angle.ensures.1,
    )
