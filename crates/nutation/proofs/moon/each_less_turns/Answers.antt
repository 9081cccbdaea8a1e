-- `nutation::moon::each_less_turns` meets its contract. Assumes nothing.
use mathlib.Core.Path.{◌≡◌, ◌∙◌, ap}
use lib.IntN.{ℤ}
use mir.Syntax.{w64}
use mir.Val.{SFits}
use borrow.Author.Rules.{rules}
use Rattle.arith.proofs.Cells.{Cell}
use Rattle.arith.proofs.Signs.{back, ok}
use Rattle.nutation.specs.Machine.Reduced.{less_turns}
use Rattle.nutation.proofs.moon.each_less_turns.Goals as goal

-- what a call gives for an argument a
given : (a : ℤ) {r : ℤ} → SFits w64 r → Cell a ≡ a → r ≡ less_turns (Cell a) → Cell r ≡ less_turns a
given a {r} f e h = back r f ∙ h ∙ ap less_turns e

pub returns : goal.returns
returns c =
    let a = c.args.a in
    let e1 : Cell a.elongation ≡ a.elongation = search rules in
    let e2 : Cell a.sun ≡ a.sun = search rules in
    let e3 : Cell a.moon ≡ a.moon = search rules in
    let e4 : Cell a.latitude ≡ a.latitude = search rules in
    let e5 : Cell a.node ≡ a.node = search rules in (
      given _ (ok c.less_turns.type_inv) e1 c.less_turns.ensures,
      given _ (ok c.less_turns-2.type_inv) e2 c.less_turns-2.ensures,
      given _ (ok c.less_turns-3.type_inv) e3 c.less_turns-3.ensures,
      given _ (ok c.less_turns-4.type_inv) e4 c.less_turns-4.ensures,
      given _ (ok c.less_turns-5.type_inv) e5 c.less_turns-5.ensures,
    )
