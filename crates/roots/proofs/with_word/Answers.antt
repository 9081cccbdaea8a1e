-- `roots::with_word` meets its contract. Assumes nothing.
use Prim.Native.Nat.{◌+◌, ◌*◌, ◌<◌}
use native.Mathlib.Omega.{arith}
use Rattle.roots.specs.Bits.{read}
use Rattle.roots.specs.Machine.Word.{word}
use Rattle.roots.proofs.Bits.{reading_begins, reading_on, reading_ends, root_below}
use Rattle.roots.proofs.with_word.Goals as goal

pub loop-init : goal.loop-init
loop-init c = reading_begins c.requires.0 c.requires.2

pub with_pair-w-requires : goal.with_pair-w-requires
with_pair-w-requires c =
    let whole_below : read c.args.start * word + c.args.next < word * word = let a = c.requires.1 in let b = c.requires.2 in omega arith in
    let i = c.loop.invariant in
    (i.worked, root_below i (whole_below), omega (arith, i.below))

pub loop-preserved : goal.loop-preserved
loop-preserved c =
    let b = c.loop.invariant.below in
    reading_on c.loop.invariant c.loop-test.true (omega arith) c.with_pair-w.ensures

pub returns : goal.returns
returns c = reading_ends c.loop.invariant c.loop-test.false
