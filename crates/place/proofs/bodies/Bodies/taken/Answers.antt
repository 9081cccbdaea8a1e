-- `place::bodies::Bodies::taken` meets its contract. Assumes nothing.
use mathlib.Core.Path.{sym, ◌∙◌}
use Rattle.units.specs.Units.{t_limit}
use Rattle.units.proofs.Limit.{told_size}
use Rattle.place.proofs.Sights.{at_clear}
use Rattle.place.proofs.Sightings.{told_asked, first_far, first_unusable, first_usable, earlier_past, earlier_far, second_is}
use mathlib.Core.Path.{ap}
use mathlib.Core.Bool.{not}
use Rattle.place.proofs.bodies.Bodies.taken.Goals as goal

pub returns-then-not-may_ask : goal.returns-then-not-may_ask
returns-then-not-may_ask c = first_far _ _ _ c.args.self.good _ c.may_ask.result c.may_ask.ensures (ap not c.if-not-may_ask.true)

pub at-requires : goal.at-requires
at-requires c = (
  c.requires.0,
  c.requires.1,
  c.requires.2,
  told_asked _ _ _ c.args.self.good _ c.may_ask.result c.may_ask.ensures (ap not c.if-not-may_ask.false),
)

pub earlier-before-requires : goal.earlier-before-requires
earlier-before-requires c = (c.requires.0, (at_clear _ _ _ _ (sym c.at.ensures ∙ c.in-Some.is)).distance_in)

pub returns-then-not-in_limit : goal.returns-then-not-in_limit
returns-then-not-in_limit c =
    first_usable _ _ _ c.args.self.good _ c.may_ask.result c.may_ask.ensures (ap not c.if-not-may_ask.false) c.at.result
    c.at.ensures _ c.in-Some.is c.earlier-before.result c.earlier-before.ensures _
    (earlier_past _ _ _ c.args.self.good _ c.earlier-before.result c.in_limit.result c.in_limit.ensures (ap not c.if-not-in_limit.true))

pub returns-then-not-may_ask-2 : goal.returns-then-not-may_ask-2
returns-then-not-may_ask-2 c =
    first_usable _ _ _ c.args.self.good _ c.may_ask.result c.may_ask.ensures (ap not c.if-not-may_ask.false) c.at.result
    c.at.ensures _ c.in-Some.is c.earlier-before.result c.earlier-before.ensures _
    (earlier_far _ _ _ c.args.self.good _ c.earlier-before.result c.in_limit.result c.in_limit.ensures (ap not c.if-not-in_limit.false) c.may_ask-2.result
    c.may_ask-2.ensures (ap not c.if-not-may_ask-2.true))

pub at-second-requires : goal.at-second-requires
at-second-requires c =
    let inside = told_size t_limit _ c.in_limit.result c.in_limit.ensures (ap not c.if-not-in_limit.false) in
    let asked = told_asked _ _ _ c.args.self.good c.earlier-before.result c.may_ask-2.result c.may_ask-2.ensures
    (ap not c.if-not-may_ask-2.false) in
    (inside, c.requires.1, c.requires.2, asked)

pub returns-in_default : goal.returns-in_default
returns-in_default c =
    first_unusable _ _ _ c.args.self.good _ c.may_ask.result c.may_ask.ensures (ap not c.if-not-may_ask.false) c.at.result c.at.ensures
    c.in_default.is

pub returns : goal.returns
returns c =
    first_usable _ _ _ c.args.self.good _ c.may_ask.result c.may_ask.ensures (ap not c.if-not-may_ask.false) c.at.result
    c.at.ensures _ c.in-Some.is c.earlier-before.result c.earlier-before.ensures _
    (second_is _ _ _ c.args.self.good _ c.earlier-before.result c.in_limit.result c.in_limit.ensures (ap not c.if-not-in_limit.false) c.may_ask-2.result
    c.may_ask-2.ensures (ap not c.if-not-may_ask-2.false) c.at-second.result c.again.result c.at-second.ensures c.again.ensures)
