-- `direction::Turned::is_not_past` meets its contract. Assumes nothing.
use mathlib.Core.Path.{◌∙◌}
use Rattle.direction.proofs.Halving.{step_below, step_sine, step_cosine, not_past_is}
use Rattle.direction.proofs.Turned.is_not_past.Goals as goal

pub cosine_sine-t-requires : goal.cosine_sine-t-requires
cosine_sine-t-requires c = step_below c.args.k c.step_angle.result c.requires c.step_angle.ensures

pub overflow_cast-t : goal.overflow_cast-t
overflow_cast-t c = (step_sine c.args.k c.step_angle.result _ c.requires c.step_angle.ensures c.cosine_sine-t.ensures.1).casts

pub overflow_cast-t-2 : goal.overflow_cast-t-2
overflow_cast-t-2 c = (step_cosine c.args.k c.step_angle.result _ c.requires c.step_angle.ensures c.cosine_sine-t.ensures.0).casts

pub product_le-requires : goal.product_le-requires
product_le-requires c = (
  (step_sine c.args.k c.step_angle.result _ c.requires c.step_angle.ensures c.cosine_sine-t.ensures.1).size,
  (step_cosine c.args.k c.step_angle.result _ c.requires c.step_angle.ensures c.cosine_sine-t.ensures.0).size,
)

pub returns : goal.returns
returns c =
    c.product_le.ensures
    ∙ not_past_is c.args.self.x c.args.self.y c.args.k c.step_angle.result _ _ c.step_angle.ensures
    (step_sine c.args.k c.step_angle.result _ c.requires c.step_angle.ensures c.cosine_sine-t.ensures.1).is
    (step_cosine c.args.k c.step_angle.result _ c.requires c.step_angle.ensures c.cosine_sine-t.ensures.0).is
