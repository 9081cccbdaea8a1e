-- `put_last` meets its contract. Assumes nothing.
use Rattle.std.proofs.Common.{◌-◌, arith, rules}
use native.Mathlib.Nat.{one-le-pow}
use Rattle.std.proofs.lemmas.Grind.{common_steps}
use Rattle.decimals.proofs.Digits.{last_more, last_none, last_room}
use Rattle.decimals.proofs.buffer.Buffer.put_last.Goals as goal

pub nonzero_div-n : goal.nonzero_div-n
nonzero_div-n g c = omega (arith, one-le-pow (c.loop-k.k - 1) 10 (omega arith))

pub put_byte-requires : goal.put_byte-requires
put_byte-requires g c = (search rules, omega (arith, last_room _ _ _ _ _ c.loop-k.invariant))

pub loop-k-preserved : goal.loop-k-preserved
loop-k-preserved g c = grind (arith, common_steps, last_more c.loop-k.k c.args.n)

pub returns : goal.returns
returns g c = grind (arith, common_steps, last_none c.loop-k.k c.args.n)
