-- `take_block` meets its contract. Assumes nothing.
use mathlib.Core.Path.{◌≡◌, sym, ◌∙◌}
use mathlib.Core.Bool.{true}
use native.Mathlib.Omega.{arith}
use lib.ListN.{drop}
use Rattle.packed_numbers.specs.Machine.Answers.{plain}
use Rattle.packed_numbers.proofs.Reading.{number_found, pass_on, show_bad, was_bad}
use Rattle.limits.specs.Limits.{after_block, count_fits}
use Rattle.packed.proofs.Walking.{filled_bad}
use Rattle.packed.proofs.Blocks.{block_bad, block_over, block_got, opened_ready, block_read, block_walked}
use Rattle.packed.proofs.table.take_block.Goals as goal

pub returns-in_err-count : goal.returns-in_err-count
returns-in_err-count c =
    let a = c.args in
    let e = c.in_err-count.ensures in (
      pass_on plain (after_block a.k a.tally) _ c.from_residual.ensures.1 e (block_bad a.k a.tally a.at _ _),
      filled_bad a.tally.terms _ _ _ _ (block_bad a.k a.tally a.at _ _ (was_bad plain _ _ (sym e))),
    )

pub overflow_sub-result : goal.overflow_sub-result
overflow_sub-result c = omega (arith, (number_found _ _ c.in_ok-count.count c.in_ok-count.ensures).forward)

pub returns-then-not-count_fits : goal.returns-then-not-count_fits
returns-then-not-count_fits c =
    let a = c.args in
    let n = number_found _ _ c.in_ok-count.count c.in_ok-count.ensures in
    let e = block_over a.k a.tally a.at _ _ _ _ n.is (sym c.count_fits.ensures ∙ c.if-not-count_fits.true) in
    (show_bad (after_block a.k a.tally) e, filled_bad a.tally.terms _ _ _ _ e)

pub take_terms-requires : goal.take_terms-requires
take_terms-requires c =
    let a = c.args in
    let fits : count_fits a.tally c.in_ok-count.count.value ≡ true = sym c.count_fits.ensures ∙ c.if-not-count_fits.false in
    let o = opened_ready a.k c.in_ok-count.count.value a.tally _ c.open_block-opened.ensures fits in
    record {
      small = c.block_factor-f.ensures.1;
      from_there = o.from;
      few = o.few;
    }

pub returns : goal.returns
returns c =
    let a = c.args in
    let n = c.in_ok-count.count in
    let fits : count_fits a.tally n.value ≡ true = sym c.count_fits.ensures ∙ c.if-not-count_fits.false in
    let t = c.take_terms in
    let f = c.block_factor-f in
    let o = c.open_block-opened in
    let y = drop n.next a.bytes.now in
    let e = block_got a.k a.tally a.at _ n.value n.next y (number_found _ _ n c.in_ok-count.ensures).is fits in
    let w = block_walked a.k n.value f.result n.next a.tally o.result y f.ensures.0 o.ensures e in
    let r = block_read a.k n.value f.result n.next a.tally o.result y f.ensures.0 o.ensures e in
    (t.ensures.0 ∙ w, rw r at t.ensures.1)
