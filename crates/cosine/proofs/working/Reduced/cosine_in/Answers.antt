-- `cosine::working::Reduced::cosine_in` meets its contract. Assumes nothing.
use mathlib.Core.Path.{◌≡◌, ◌∙◌}
use Prim.Native.Nat.{◌*◌, ◌%◌, ◌≤◌}
use native.Mathlib.Omega.{arith}
use lib.IntN.{pos, neg_ℤ, ◌+ℤ◌, ◌-ℤ◌}
use Rattle.arith.proofs.Signs.{back, ok}
use Rattle.units.specs.Units.{U}
use Rattle.cosine.specs.Cosine.{even_part, odd_part, cosine_by}
use Rattle.cosine.proofs.NaturalSteps.{unbiased, biased_as, biased_turned}
use Rattle.cosine.proofs.working.Reduced.cosine_in.Goals as goal
use Rattle.cosine.proofs.working.Reduced.cosine_in.Goals.{then-k-eq0, else-k-eq0, then-k-lt2, else-k-lt2}

pub returns : goal.returns
returns c =
    let k = c.args.k in
    let l = c.if-k-eq0.c in
    let e = even_part (pos c.args.self.v -ℤ pos U) in
    let o = odd_part (pos c.args.self.v -ℤ pos U) in
    let even : k % 2 ≡ 0 → pos l ≡ pos U +ℤ e =
    λ i. elim c.if-k-eq0.branch [ then-k-eq0 w ↦ rw w.c-is w.lifted-c.ensures.0 | else-k-eq0 w ↦ absurd (w.if-k-eq0.false i) ] in
    let odd : (k % 2 ≡ 0 → ⊥) → pos l ≡ pos U +ℤ neg_ℤ o =
    λ n. elim c.if-k-eq0.branch [ then-k-eq0 w ↦ absurd (n w.if-k-eq0.true) | else-k-eq0 w ↦ rw w.c-is w.lifted-c-else-k-eq0.ensures.0 ] in
    let top : l ≤ 2 * U = elim c.if-k-eq0.branch [ then-k-eq0 w ↦ omega arith | else-k-eq0 w ↦ omega arith ] in
    let is : pos c.if-k-lt2.turned ≡ pos U +ℤ cosine_by neg_ℤ k e o =
    elim c.if-k-lt2.branch [
      | then-k-lt2 w ↦ rw w.turned-is (biased_as k l e o w.if-k-lt2.true even odd)
      | else-k-lt2 w ↦ rw w.turned-is (biased_turned k l e o c.requires w.if-k-lt2.false top even odd)
    ] in
    back c.difference.result (ok c.difference.type_inv) ∙ c.difference.ensures ∙ unbiased _ _ is
