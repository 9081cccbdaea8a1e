-- `put_signed` meets its contract. Assumes nothing.
use mathlib.Core.Path.{ap, ◌∙◌}
use lib.IntN.{pos}
use lib.Signed.{lt_z}
use Rattle.arith.proofs.Signs.{back, lt_zero}
use Rattle.decimals.proofs.Digits.{signed_put}
use Rattle.decimals.proofs.buffer.Buffer.put_signed.Goals as goal

pub returns : goal.returns
returns g c =
    let b = back _ c.ranges.z in
    signed_put c.args.z _ _ _ _ _ (ap (λ t. lt_z t (pos 0)) b ∙ lt_zero c.args.z) (rw b at c.unsigned_abs.ensures.value) c.put_sign.ensures c.put_decimal.ensures
