-- `sunlist::one_minute::decide` meets its contract. Assumes nothing.
use mathlib.Core.Path.{refl}
use mathlib.Core.Bool.{true, false}
use Rattle.sunlist.proofs.Deciding.{not_decided, usable_told, listed_told, clear_told}
use Rattle.sunlist.proofs.one_minute.decide.Goals as goal

pub figures-f-requires : goal.figures-f-requires
figures-f-requires c =
    let u = usable_told c.args.k c.args.planet c.args.earth c.sight.result c.sight.ensures _ c.in-Some.is in
    (c.requires, u.0, u.1)

pub returns-then-q-t : goal.returns-then-q-t
returns-then-q-t c =
    listed_told c.args.k c.args.planet c.args.earth c.sight.result c.sight.ensures _ c.in-Some.is
    c.figures-f.result c.figures-f.ensures true c.if-q-t.true refl

pub returns-in-None : goal.returns-in-None
returns-in-None c = not_decided c.args.k c.args.planet c.args.earth c.sight.result c.sight.ensures c.in-None.is

pub returns-else-q-t : goal.returns-else-q-t
returns-else-q-t c =
    clear_told c.args.k c.args.planet c.args.earth c.sight.result c.sight.ensures _ c.in-Some.is
    c.figures-f.result c.figures-f.ensures false c.if-q-t.false refl
