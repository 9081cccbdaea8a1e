-- `mending::counting::past_plain` meets its contract. Assumes nothing.
use native.Mathlib.Omega.{arith}
use Rattle.std.proofs.lemmas.List.{take_rest}
use Rattle.mending.proofs.Runs.{position_or, plain_all}
use Rattle.mending.proofs.counting.past_plain.Goals as goal

pub overflow_add-result : goal.overflow_add-result
overflow_add-result c =
    let n = rw (c.first_low.ensures, position_or, take_rest) at c.unwrap_or.ensures in
    omega (arith, (plain_all c.args.text.now c.args.i _ c.requires n).within)

pub returns : goal.returns
returns c =
    let n = rw (c.first_low.ensures, position_or, take_rest) at c.unwrap_or.ensures in
    plain_all c.args.text.now c.args.i _ c.requires n
