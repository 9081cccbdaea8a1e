-- `unpack` meets its contract. Assumes nothing.
use mathlib.Core.Path.{◌≡◌, refl, sym, ap, ◌∙◌}
use native.Mathlib.Omega.{arith}
use borrow.Author.Rules.{rules}
use Rattle.std.proofs.Common.{Err}
use Rattle.std.proofs.lemmas.Result.{err_from_is_err_and}
use Rattle.units.specs.Units.{block_count}
use Rattle.limits.specs.Limits.{after_block}
use Rattle.packed_numbers.proofs.Reading.{was_bad}
use Rattle.packed.proofs.Walking.{stepped}
use Rattle.packed.proofs.Blocks.{block_after}
use Rattle.packed.proofs.Unpacking.{unpacking_none, unpacking_more, unpacking_stop, unpacking_over}
use Rattle.packed.proofs.Unpacking.{unpacking_done, unpacking_holds, unpacking_tallied, unpacking_wide, answer_refused, answer_series}
use Rattle.packed.proofs.table.Table.unpack.Goals as goal

pub loop-k-init : goal.loop-k-init
loop-k-init c = rw c.empty.ensures (unpacking_none _ _ _ _ (search rules) (search rules) (search rules))

pub returns-in_err-read : goal.returns-in_err-read
returns-in_err-read c =
    let l = c.loop-k in
    let t = c.in_err-read.ensures in
    let e = unpacking_stop _ _ _ _ _ _ _ l.invariant _ c.loop-k-test.true (was_bad (after_block l.k l.read.value) _ _ (sym t.0)) in
    let r = answer_refused _ _ _ e in
    let p = err_from_is_err_and c.from_residual.result c.from_residual.ensures.1 in
    (p.1 ∙ ap Err p.2 ∙ r.0, r.1)

pub loop-k-preserved : goal.loop-k-preserved
loop-k-preserved c =
    let l = c.loop-k in
    let t = c.in_ok-read.ensures in
    let w = stepped (after_block l.k l.read.value) _ _ (block_after c.args.bytes.now l.k l.read.value l.read.next) t.0 in
    unpacking_more _ _ _ _ _ _ _ l.invariant _ _ c.loop-k-test.true w t.1

pub returns-then-read-bytes : goal.returns-then-read-bytes
returns-then-read-bytes c =
    let l = c.loop-k in
    answer_refused _ _ _ (unpacking_over _ _ _ _ _ _ _ l.invariant c.loop-k-test.false c.if-read-bytes.true)

pub is_wide-requires : goal.is_wide-requires
is_wide-requires c =
    let l = c.loop-k in
    unpacking_tallied _ _ _ _ _ _ _ l.invariant (omega (arith, c.loop-k-test.false, l.invariant.bound))

pub returns : goal.returns
returns c =
    let l = c.loop-k in
    let h = c.loop-k-test.false in
    let v = l.invariant in
    let e = unpacking_done _ _ _ _ _ _ _ v h c.if-read-bytes.false in
    let n : l.k ≡ block_count = omega (arith, h, v.bound) in
    let g = unpacking_wide _ _ _ _ _ _ _ v n _ c.is_wide.ensures in
    answer_series _ v.done _ _ _ e v.terms g (unpacking_holds _ _ _ _ _ _ _ v _ refl refl n)
