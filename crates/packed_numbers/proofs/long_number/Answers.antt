-- `long_number` meets its contract: what is left of the bytes, after k groups, gives what the whole gives. Assumes nothing.
use mathlib.Core.Path.{◌≡◌, sym, ap, ◌∙◌}
use Prim.Native.Nat.{ℕ, ◌-◌, ◌≤◌, ◌<◌}
use native.Mathlib.Omega.{arith}
use lib.ListN.{length}
use Rattle.packed_numbers.specs.Numbers.{group}
use Rattle.packed_numbers.specs.Machine.Answers.{shown, plain}
use Rattle.packed_numbers.proofs.Decode.{power_small, power_next, more_small, group_fits, last_padded, last_value, too_long, more_groups, no_group}
use Rattle.packed_numbers.proofs.long_number.Goals as goal

-- What a byte is above its top bit.
low_bits : {x y : ℕ} → x ≡ y → y < 256 → x - group ≤ 127
low_bits e h = omega (arith, e, h)

pub returns-then-b-eq0 : goal.returns-then-b-eq0
unfolding shown
returns-then-b-eq0 c =
    let l = c.loop-i in
    sym (ap (shown plain) (l.invariant.4
    ∙ last_padded _ _ _ _ _ c.from-b.ensures c.loop-i-test.true c.if-b-lt-GROUP.true c.if-b-eq0.true l.invariant.3))

pub overflow_mul-result : goal.overflow_mul-result
overflow_mul-result c =
    let l = c.loop-i in
    omega (arith, group_fits l.k l.scale l.value c.from-b.result l.invariant.0 l.invariant.1 l.invariant.2 (omega (arith, c.if-b-lt-GROUP.true)))

pub overflow_add-result : goal.overflow_add-result
overflow_add-result c =
    let l = c.loop-i in
    omega (arith, group_fits l.k l.scale l.value c.from-b.result l.invariant.0 l.invariant.1 l.invariant.2 (omega (arith, c.if-b-lt-GROUP.true)))

pub returns-then-b-lt-GROUP : goal.returns-then-b-lt-GROUP
unfolding shown
returns-then-b-lt-GROUP c =
    let l = c.loop-i in
    rw l.invariant.0 (sym (ap (shown plain) (l.invariant.4
    ∙ last_value _ _ _ _ _ c.from-b.ensures c.loop-i-test.true c.if-b-lt-GROUP.true c.if-b-eq0.false)))

pub returns-then-k-ge-EARLIER_LIMIT : goal.returns-then-k-ge-EARLIER_LIMIT
unfolding shown
returns-then-k-ge-EARLIER_LIMIT c =
    let l = c.loop-i in
    sym (ap (shown plain) (l.invariant.4
    ∙ too_long _ _ _ _ _ c.from-b.ensures c.loop-i-test.true c.if-b-lt-GROUP.false c.if-k-ge-EARLIER_LIMIT.true))

pub overflow_mul-value : goal.overflow_mul-value
overflow_mul-value c =
    let l = c.loop-i in
    let h = low_bits c.from-b.ensures (c.type_inv.s l.i).fits in
    omega (arith, group_fits l.k l.scale l.value (c.from-b.result - group) l.invariant.0 l.invariant.1 l.invariant.2 h)

pub overflow_add-value : goal.overflow_add-value
overflow_add-value c =
    let l = c.loop-i in
    let h = low_bits c.from-b.ensures (c.type_inv.s l.i).fits in
    omega (arith, group_fits l.k l.scale l.value (c.from-b.result - group) l.invariant.0 l.invariant.1 l.invariant.2 h)

pub overflow_mul-scale : goal.overflow_mul-scale
overflow_mul-scale c = let l = c.loop-i in omega (arith, power_small l.k l.invariant.1, l.invariant.0)

pub loop-i-preserved : goal.loop-i-preserved
loop-i-preserved c =
    let l = c.loop-i in
    let v = l.invariant in
    let m = more_small l.value (c.from-b.result - group) l.scale (rw (← v.0) at v.2) (low_bits c.from-b.ensures (c.type_inv.s l.i).fits) in
    let e = power_next l.k in (
      omega (arith, e, v.0),
      omega arith,
      omega (arith, m, e, v.0),
      omega arith,
      v.4 ∙ more_groups _ _ _ _ _ c.from-b.ensures c.loop-i-test.true c.if-b-lt-GROUP.false c.if-k-ge-EARLIER_LIMIT.false ∙ rw v.0,
    )

pub returns : goal.returns
unfolding shown
returns c =
    let l = c.loop-i in
    let e : l.i ≡ length c.args.s.now = omega arith in
    rw (← e) (sym (ap (shown plain) (l.invariant.4 ∙ no_group _ _ _ _ c.loop-i-test.false)))
