-- `rectangular::from_earth::sight` meets its contract. Assumes nothing.
use mathlib.Core.Path.{◌≡◌}
use mathlib.Core.Bool.{true}
use borrow.Author.Rules.{rules}
use Rattle.arith.proofs.Cells.{cell}
use Rattle.rectangular.specs.Sight.{radius_usable, sight}
use Rattle.rectangular.proofs.Radii.{radius_in}
use Rattle.rectangular.proofs.Sights.{radii_hand, radii_refused, radii_pass, sight_told}
use mathlib.Core.Path.{ap}
use mathlib.Core.Bool.{not}
use Rattle.rectangular.proofs.from_earth.sight.Goals as goal

pub returns-then-not-usable_radii : goal.returns-then-not-usable_radii
unfolding sight
returns-then-not-usable_radii c =
    radii_refused c.args.planet.radius c.args.earth.radius (search rules) (search rules) c.usable_radii.result c.usable_radii.ensures
    (ap not c.if-not-usable_radii.true) _ _

pub place_in-p-requires : goal.place_in-p-requires
place_in-p-requires c =
    let g : (radius_usable c.args.planet.radius ≡ true) × (radius_usable c.args.earth.radius ≡ true) =
    radii_pass c.args.planet.radius c.args.earth.radius (search rules) (search rules) c.usable_radii.result c.usable_radii.ensures
    (ap not c.if-not-usable_radii.false) in
    g.0

pub place_in-e-requires : goal.place_in-e-requires
place_in-e-requires c =
    let g : (radius_usable c.args.planet.radius ≡ true) × (radius_usable c.args.earth.radius ≡ true) =
    radii_pass c.args.planet.radius c.args.earth.radius (search rules) (search rules) c.usable_radii.result c.usable_radii.ensures
    (ap not c.if-not-usable_radii.false) in
    g.1

pub seen-requires : goal.seen-requires
seen-requires c =
    let g : (radius_usable c.args.planet.radius ≡ true) × (radius_usable c.args.earth.radius ≡ true) =
    radii_pass c.args.planet.radius c.args.earth.radius (search rules) (search rules) c.usable_radii.result c.usable_radii.ensures
    (ap not c.if-not-usable_radii.false) in
    let r = radii_hand _ _ g.0 g.1 in
    (r.0, r.1, c.place_in-p.ensures.1, c.place_in-e.ensures.1)

pub returns : goal.returns
unfolding sight
returns c =
    let g : (radius_usable c.args.planet.radius ≡ true) × (radius_usable c.args.earth.radius ≡ true) =
    radii_pass c.args.planet.radius c.args.earth.radius (search rules) (search rules) c.usable_radii.result c.usable_radii.ensures
    (ap not c.if-not-usable_radii.false) in
    sight_told c.args.planet.radius c.args.earth.radius (cell _ (radius_in _ g.0)) (cell _ (radius_in _ g.1))
    c.place_in-p.result c.place_in-e.result _ _ c.seen.result c.place_in-p.ensures.0 c.place_in-e.ensures.0 c.seen.ensures
