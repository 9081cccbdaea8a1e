-- `place::steps::to_equator` meets its contract. Assumes nothing.
use Rattle.place.proofs.Equator.{scales_ask, y_fits, z_fits, to_equator_is}
use Rattle.place.proofs.steps.to_equator.Goals as goal

pub scale-requires : goal.scale-requires
scale-requires c =
    let w = c.cosine_sine-e in
    let h = scales_ask c.args.v c.requires.0 c.args.obliquity w.result.cos w.result.sin w.ensures.0 w.ensures.1 in (h.0, h.2)

pub scale-requires-2 : goal.scale-requires-2
scale-requires-2 c =
    let w = c.cosine_sine-e in
    let h = scales_ask c.args.v c.requires.0 c.args.obliquity w.result.cos w.result.sin w.ensures.0 w.ensures.1 in (h.1, h.3)

pub scale-requires-3 : goal.scale-requires-3
scale-requires-3 c =
    let w = c.cosine_sine-e in
    let h = scales_ask c.args.v c.requires.0 c.args.obliquity w.result.cos w.result.sin w.ensures.0 w.ensures.1 in (h.0, h.3)

pub scale-requires-4 : goal.scale-requires-4
scale-requires-4 c =
    let w = c.cosine_sine-e in
    let h = scales_ask c.args.v c.requires.0 c.args.obliquity w.result.cos w.result.sin w.ensures.0 w.ensures.1 in (h.1, h.2)

pub overflow_sub-result : goal.overflow_sub-result
overflow_sub-result c =
    let w = c.cosine_sine-e in
    y_fits c.args.v c.requires.0 c.args.obliquity w.result.cos w.result.sin w.ensures.0 w.ensures.1 c.scale.result c.scale-2.result c.scale.ensures
    c.scale-2.ensures

pub overflow_add-result : goal.overflow_add-result
overflow_add-result c =
    let w = c.cosine_sine-e in
    z_fits c.args.v c.requires.0 c.args.obliquity w.result.cos w.result.sin w.ensures.0 w.ensures.1 c.scale-3.result c.scale-4.result c.scale-3.ensures
    c.scale-4.ensures

pub returns : goal.returns
returns c =
    let w = c.cosine_sine-e in
    to_equator_is c.args.v c.requires.0 c.args.obliquity w.result.cos w.result.sin w.ensures.0 w.ensures.1 c.scale.result c.scale-2.result c.scale-3.result
    c.scale-4.result c.scale.ensures c.scale-2.ensures c.scale-3.ensures c.scale-4.ensures
