-- `sunlist::window::Window::first_far` meets its contract. Assumes nothing.
use Rattle.std.proofs.Common.{not, arith, rules, tests}
use Rattle.std.proofs.lemmas.Iterator.{YieldsList-from_range, YieldsList-from_map}
use Rattle.std.proofs.lemmas.Iterator.Search.{find_from_yields_List}
use Rattle.units.specs.Units.{near}
use Rattle.units.specs.declared.Instant.{Instant}
use Rattle.sunlist.specs.SunList.{minute}
use Rattle.sunlist.proofs.Windows.{good_asked, found_far}
use Rattle.sunlist.proofs.window.Window.first_far.Goals as goal

pub returns-then-wide : goal.returns-then-wide
returns-then-wide c = good_asked c.args.self.t0 c.args.self.minutes c.args.wide c.if-wide.true

pub returns : goal.returns
returns c =
    found_far c.args.self.t0 c.args.wide c.if-wide.false c.args.self.minutes c.find.result
    (find_from_yields_List (λ (t : Instant). not (near t.ms)) _ _ _ c.find.ensures.ran
    (YieldsList-from_map _ (minute c.args.self.t0) (YieldsList-from_range 0 c.args.self.minutes c.args.self.minutes c.map.ensures.source (omega arith)) c.map.ensures.closure
    (λ x r q k. search rules))
    (λ x b q k. search (rules, tests)))
