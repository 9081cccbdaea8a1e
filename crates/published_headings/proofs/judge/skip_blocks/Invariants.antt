-- `published_headings::judge::skip_blocks` meets its contract: what is left to skip gives what all of it gives. Assumes nothing.
use Rattle.std.proofs.Common.{◌≡◌, ◌-◌, true}
use Rattle.limits.specs.Limits.{count_fits}
use Rattle.published_headings.specs.Judge.{skipped}
use Rattle.published_headings.proofs.judge.skip_blocks.Given as goal

abbrev pub invariant-loop-i : goal.invariant-loop-i
invariant-loop-i l = (count_fits l.s 0 ≡ true) × (skipped l.i (l.end - l.i) l.s ≡ skipped l.fn.k (l.end - l.fn.k) l.initial.s)
