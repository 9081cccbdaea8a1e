-- `nutation::rows::trig_of` meets its contract. Assumes nothing.
use lib.Dec.{lit<, lit≤}
use Rattle.arith.proofs.Signs.{ok}
use Rattle.nutation.proofs.Terms.{left_told, left_small, left_room, angle_casts, angle_below, cosine_told, sine_told}
use Rattle.nutation.proofs.rows.trig_of.Goals as goal

pub overflow_cast-x : goal.overflow_cast-x
overflow_cast-x c = (left_told c.args.s _ c.ranges.s c.residue-x.ensures).room

pub units_angle-requires : goal.units_angle-requires
units_angle-requires c =
    let l = left_told c.args.s _ c.ranges.s c.residue-x.ensures in rw l.cast (lit< tt, lit≤ tt, left_small _ l.small, left_room _ l.small)

pub overflow_cast-units_angle : goal.overflow_cast-units_angle
overflow_cast-units_angle c =
    angle_casts c.args.s c.residue-x.result (left_told c.args.s _ c.ranges.s c.residue-x.ensures) c.units_angle.result
    (ok c.units_angle.type_inv) c.units_angle.ensures

pub cosine_sine-requires : goal.cosine_sine-requires
cosine_sine-requires c =
    angle_below c.args.s c.residue-x.result (left_told c.args.s _ c.ranges.s c.residue-x.ensures) c.units_angle.result
    (ok c.units_angle.type_inv) c.units_angle.ensures

pub returns : goal.returns
returns c =
    let l = left_told c.args.s _ c.ranges.s c.residue-x.ensures in (
      cosine_told c.args.s c.residue-x.result l c.units_angle.result (ok c.units_angle.type_inv) c.units_angle.ensures _ c.cosine_sine.ensures.0,
      sine_told c.args.s c.residue-x.result l c.units_angle.result (ok c.units_angle.type_inv) c.units_angle.ensures _ c.cosine_sine.ensures.1,
    )
