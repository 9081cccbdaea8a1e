-- `put_bytes` meets its contract. Assumes nothing.
use Rattle.std.proofs.Common.{refl, arith}
use Rattle.decimals.proofs.Puts.{copied_put}
use Rattle.decimals.proofs.writing.put_bytes.Goals as goal

pub returns : goal.returns
returns c = copied_put _ _ _ _ _ _ refl (omega arith) c.copy_from_slice.ensures.after c.requires
