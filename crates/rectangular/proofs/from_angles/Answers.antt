-- `rectangular::from_angles` meets its contract. Assumes nothing.
use lib.IntN.{pos}
use Rattle.arith.proofs.Cells.{held_lt}
use Rattle.rectangular.proofs.Places.{cosine_cell, sine_cell, flat_in, from_angles_is}
use Rattle.rectangular.proofs.from_angles.Goals as goal

pub scale-flat-requires : goal.scale-flat-requires
scale-flat-requires c = (held_lt c.args.radius c.requires.0, cosine_cell _ _ c.cosine_sine-b.ensures.0)

pub scale-x-requires : goal.scale-x-requires
scale-x-requires c = (
  held_lt c.scale-flat.result
      (flat_in c.args.radius c.args.latitude c.args.longitude c.requires.0 c.cosine_sine-b.result.cos c.cosine_sine-b.result.sin
      c.cosine_sine-l.result.cos c.cosine_sine-l.result.sin c.scale-flat.result (pos 0) (pos 0) (pos 0) c.cosine_sine-b.ensures.0
      c.cosine_sine-b.ensures.1 c.cosine_sine-l.ensures.0 c.cosine_sine-l.ensures.1 c.scale-flat.ensures),
  cosine_cell _ _ c.cosine_sine-l.ensures.0,
)

pub scale-y-requires : goal.scale-y-requires
scale-y-requires c = (
  held_lt c.scale-flat.result
      (flat_in c.args.radius c.args.latitude c.args.longitude c.requires.0 c.cosine_sine-b.result.cos c.cosine_sine-b.result.sin
      c.cosine_sine-l.result.cos c.cosine_sine-l.result.sin c.scale-flat.result (pos 0) (pos 0) (pos 0) c.cosine_sine-b.ensures.0
      c.cosine_sine-b.ensures.1 c.cosine_sine-l.ensures.0 c.cosine_sine-l.ensures.1 c.scale-flat.ensures),
  sine_cell _ _ c.cosine_sine-l.ensures.1,
)

pub scale-z-requires : goal.scale-z-requires
scale-z-requires c = (held_lt c.args.radius c.requires.0, sine_cell _ _ c.cosine_sine-b.ensures.1)

pub returns : goal.returns
returns c =
    from_angles_is c.args.radius c.args.latitude c.args.longitude c.requires.0 c.cosine_sine-b.result.cos
    c.cosine_sine-b.result.sin c.cosine_sine-l.result.cos c.cosine_sine-l.result.sin
    c.scale-flat.result c.scale-x.result c.scale-y.result c.scale-z.result
    c.cosine_sine-b.ensures.0 c.cosine_sine-b.ensures.1 c.cosine_sine-l.ensures.0 c.cosine_sine-l.ensures.1 c.scale-flat.ensures
    c.scale-x.ensures c.scale-y.ensures c.scale-z.ensures
