-- `stephylax::stephylax_sun_list` meets its contract. Assumes nothing.
use Rattle.arith.proofs.Signs.{back}
use Rattle.stephylax.proofs.Promises.{c_sun_list_promised}
use Rattle.stephylax.proofs.stephylax_sun_list.Goals as goal

pub returns : goal.returns
returns c =
    let p = rw (
      back c.args.t0 c.ranges.t0,
      back c.args.minutes c.ranges.minutes,
      back c.args.keep_out c.ranges.keep_out,
    ) at c.sun_list.ensures in
    c_sun_list_promised _ _ c.args.t0 c.args.minutes c.args.keep_out _ _ _ _ p c.of_list.ensures
