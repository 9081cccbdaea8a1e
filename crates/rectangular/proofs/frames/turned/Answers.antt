-- `rectangular::frames::turned` meets its contract. Assumes nothing.
use Rattle.rectangular.specs.Frames.{turned}
use Rattle.rectangular.proofs.Places.{three}
use Rattle.rectangular.proofs.Turn.{share_told, sum_told}
use Rattle.rectangular.proofs.frames.turned.Goals as goal

pub returns : goal.returns
unfolding turned
returns c =
    let v = c.args.v in
    let h = c.requires in
    three
    (rw (← share_told _ v.y _ h.y_in c.share.ensures.0, ← share_told _ v.z _ h.z_in c.share-2.ensures.0)
    (sum_told v.x c.share.result c.share-2.result h.x_in c.share.ensures.1 c.share-2.ensures.1))
    (rw (← share_told _ v.x _ h.x_in c.share-3.ensures.0, ← share_told _ v.z _ h.z_in c.share-4.ensures.0)
    (sum_told c.share-3.result v.y c.share-4.result c.share-3.ensures.1 h.y_in c.share-4.ensures.1))
    (rw (← share_told _ v.x _ h.x_in c.share-5.ensures.0, ← share_told _ v.y _ h.y_in c.share-6.ensures.0)
    (sum_told c.share-5.result c.share-6.result v.z c.share-5.ensures.1 c.share-6.ensures.1 h.z_in))
