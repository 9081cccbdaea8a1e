-- `published_headings::judge::skip_blocks` meets its contract: what is left to skip gives what all of it gives. Assumes nothing.
use Rattle.std.proofs.Common.{sym, ◌∙◌, arith}
use Rattle.published_headings.proofs.Judged.{opened_fits, skip_more, skip_end}
use Rattle.published_headings.proofs.judge.skip_blocks.Goals as goal

pub loop-i-preserved : goal.loop-i-preserved
loop-i-preserved c =
    let l = c.loop-i in
    let a = c.args in
    rw c.open_block-s.ensures (opened_fits l.i 0 l.s l.invariant.0, sym (skip_more l.i a.end l.s (omega arith)) ∙ l.invariant.1)

pub returns : goal.returns
returns c = let l = c.loop-i in sym (skip_end l.i _ l.s (omega arith)) ∙ l.invariant.1
