-- `published::Published::close` meets its contract. Assumes nothing.
use Rattle.std.proofs.Common.{arith}
use Rattle.published.proofs.Branches.{zeros_fit, ended_whole}
use Rattle.published.proofs.Published.close.Goals as goal

pub finish-requires : goal.finish-requires
finish-requires c = omega (arith, c.well_formed, zeros_fit _ _ _ c.args.out.now c.in-Ok.ensures.0)

pub returns-in-Ok : goal.returns-in-Ok
returns-in-Ok c =
    let p = c.args.self in
    ended_whole p _ _ _ (omega arith) (omega arith) (omega arith) _ c.missing_blocks-n.ensures c.in-Ok.ensures.1 _ c.in-Ok.ensures.0 c.finish.ensures
