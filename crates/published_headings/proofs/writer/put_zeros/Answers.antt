-- `published_headings::writer::put_zeros` meets its contract. Assumes nothing.
use Rattle.std.proofs.Common.{◌≡◌, ℕ, ◌+◌, ◌-◌, length, take, drop, replicate, refl, ap, ◌∙◌, arith, length-drop}
use Rattle.std.proofs.lemmas.List.{length-take}
use Rattle.published_headings.proofs.Zeros.{zeros_filled}
use Rattle.published_headings.proofs.writer.put_zeros.Goals as goal

pub returns : goal.returns
returns c =
    let a = c.args in
    let rest = drop a.at a.out.now in
    let k : a.at + a.n - a.at ≡ a.n = omega arith in
    let long : length (take (a.at + a.n - a.at) rest) ≡ a.n =
    omega (arith, c.requires, length-take (a.at + a.n - a.at) rest, length-drop a.at a.out.now) in
    (refl, zeros_filled a.at a.n _ a.out.now _ c.requires k (c.fill.ensures.after (λ y e. e) ∙ ap (λ (m : ℕ). replicate m 0) long))
