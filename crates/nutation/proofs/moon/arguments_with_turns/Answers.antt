-- `nutation::moon::arguments_with_turns` meets its contract. Assumes nothing.
use mathlib.Core.Path.{◌≡◌, ◌∙◌, sym, ap, subst}
use mathlib.Core.List.{List}
use Prim.Native.Nat.{◌≤◌}
use lib.Dec.{lit<}
use lib.IntN.{ℤ, nat_abs}
use mir.Syntax.{w64}
use mir.Val.{SFits}
use Rattle.arith.proofs.Cells.{Cell}
use Rattle.arith.proofs.Signs.{back, ok}
use Rattle.units.specs.Units.{t_limit}
use Rattle.nutation.specs.Nutation.{argument, mean_elongation, sun_anomaly, moon_anomaly, latitude_argument, moon_node}
use Rattle.nutation.specs.Machine.Reduced.{reach}
use Rattle.nutation.proofs.moon.arguments_with_turns.Goals as goal

pub argument_at-requires : goal.argument_at-requires
unfolding reach
argument_at-requires c =
    let time : nat_abs (Cell c.args.t) ≤ t_limit = subst (λ z. nat_abs z ≤ t_limit) (sym (back c.args.t c.ranges.t)) c.requires in
    (time, lit< tt)

pub argument_at-requires-2 : goal.argument_at-requires-2
unfolding reach
argument_at-requires-2 c =
    let time : nat_abs (Cell c.args.t) ≤ t_limit = subst (λ z. nat_abs z ≤ t_limit) (sym (back c.args.t c.ranges.t)) c.requires in
    (time, lit< tt)

pub argument_at-requires-3 : goal.argument_at-requires-3
unfolding reach
argument_at-requires-3 c =
    let time : nat_abs (Cell c.args.t) ≤ t_limit = subst (λ z. nat_abs z ≤ t_limit) (sym (back c.args.t c.ranges.t)) c.requires in
    (time, lit< tt)

pub argument_at-requires-4 : goal.argument_at-requires-4
unfolding reach
argument_at-requires-4 c =
    let time : nat_abs (Cell c.args.t) ≤ t_limit = subst (λ z. nat_abs z ≤ t_limit) (sym (back c.args.t c.ranges.t)) c.requires in
    (time, lit< tt)

pub argument_at-requires-5 : goal.argument_at-requires-5
unfolding reach
argument_at-requires-5 c =
    let time : nat_abs (Cell c.args.t) ≤ t_limit = subst (λ z. nat_abs z ≤ t_limit) (sym (back c.args.t c.ranges.t)) c.requires in
    (time, lit< tt)

pub returns : goal.returns
unfolding mean_elongation sun_anomaly moon_anomaly latitude_argument moon_node
returns c =
    let found : (cs : List ℤ) (r : ℤ) → SFits w64 r → r ≡ argument (Cell c.args.t) cs → Cell r ≡ argument c.args.t cs =
    λ cs r f e. back r f ∙ e ∙ ap (λ z. argument z cs) (back c.args.t c.ranges.t) in (
      found _ _ (ok c.argument_at.type_inv) c.argument_at.ensures,
      found _ _ (ok c.argument_at-2.type_inv) c.argument_at-2.ensures,
      found _ _ (ok c.argument_at-3.type_inv) c.argument_at-3.ensures,
      found _ _ (ok c.argument_at-4.type_inv) c.argument_at-4.ensures,
      found _ _ (ok c.argument_at-5.type_inv) c.argument_at-5.ensures,
    )
