-- `text::pass` meets its contract: what is left to run gives what the whole piece gives. Assumes nothing.
use mathlib.Core.Path.{refl, sym, ap, ◌∙◌}
use native.Mathlib.Omega.{arith}
use Rattle.text.proofs.Branches.{pass_more, pass_end}
use Rattle.text.specs.Reader.{Run}
use Rattle.text.proofs.pass.Goals as goal

pub loop-i-init : goal.loop-i-init
loop-i-init g c = (refl, refl)

pub bounds-text-i : goal.bounds-text-i
bounds-text-i g c = omega arith

pub overflow_add-i : goal.overflow_add-i
overflow_add-i g c = omega arith

pub loop-i-smaller : goal.loop-i-smaller
loop-i-smaller g c = omega (arith, c.take_parts-taken.ensures.onward)

pub loop-i-preserved : goal.loop-i-preserved
loop-i-preserved g c =
    let parts = c.take_parts-taken in
    let s = c.args.text.now in
    let l = c.loop-i in
    let t = c.take_byte-next in (
      t.auto.out ∙ l.invariant.0,
      parts.ensures.same _ _ ∙ sym (pass_more _ _ _ _ _ s l.i _ refl (omega arith) t.ensures.0 t.ensures.1) ∙ l.invariant.1,
    )

pub shape_of-out : goal.shape_of-out
shape_of-out g c = c.loop-i.invariant.0

pub returns : goal.returns
returns g c =
    let l = c.loop-i in
    let e = sym (pass_end _ l.reader l.out _ l.i (omega arith)) ∙ l.invariant.1 in (ap (λ (x : Run). x.reader) e, ap (λ (x : Run). x.out) e)
