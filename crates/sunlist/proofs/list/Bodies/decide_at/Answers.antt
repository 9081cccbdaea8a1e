-- `sunlist::list::Bodies::decide_at` meets its contract. Assumes nothing.
use Rattle.std.proofs.Common.{◌≤◌, nat_abs}
use Rattle.units.specs.Units.{t_limit}
use Rattle.sunlist.proofs.Listing.{minute_reached, decided}
use Rattle.sunlist.proofs.list.Bodies.decide_at.Goals as goal

pub coordinates-p-requires : goal.coordinates-p-requires
coordinates-p-requires c =
    let l : nat_abs c.minute-t.result.ms ≤ t_limit = rw c.minute-t.ensures (c.args.window.within c.args.j c.requires.0) in
    let r = minute_reached _ _ c.args.window.t0 _ c.args.j c.minute-t.result c.requires.1 c.requires.0 c.minute-t.ensures in
    (l, c.requires.1.planet_table, r.0)

pub coordinates-e-requires : goal.coordinates-e-requires
coordinates-e-requires c =
    let l : nat_abs c.minute-t.result.ms ≤ t_limit = rw c.minute-t.ensures (c.args.window.within c.args.j c.requires.0) in
    let r = minute_reached _ _ c.args.window.t0 _ c.args.j c.minute-t.result c.requires.1 c.requires.0 c.minute-t.ensures in
    (l, c.requires.1.earth_table, r.1)

pub returns : goal.returns
returns c =
    decided c.args.window.t0 c.args.window.keep_out c.args.j c.minute-t.result _ _ c.coordinates-p.result c.coordinates-e.result c.decide.result
    c.minute-t.ensures c.coordinates-p.ensures c.coordinates-e.ensures c.decide.ensures
