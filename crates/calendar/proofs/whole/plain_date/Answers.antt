-- `plain_date` meets its contract. Assumes nothing.
use mathlib.Core.Path.{ap, ◌∙◌}
use Rattle.calendar.specs.Machine.Shifted.{plain}
use native.Mathlib.Omega.{arith}
use Rattle.std.proofs.lemmas.Int.{ints}
use Rattle.arith.proofs.Signs.{ok}
use Rattle.calendar.proofs.WholeDates.{Small, date_small, plain_law}
use Rattle.calendar.proofs.whole.plain_date.Goals as goal

pub overflow_cast-result : goal.overflow_cast-result
overflow_cast-result c = let small = date_small _ c.date_at-s.result c.requires c.date_at-s.ensures in ok (omega (arith, small.index))

pub overflow_sub-result : goal.overflow_sub-result
overflow_sub-result c = let small = date_small _ c.date_at-s.result c.requires c.date_at-s.ensures in omega (arith, ints, small.index)

pub overflow_cast-result-2 : goal.overflow_cast-result-2
overflow_cast-result-2 c = let small = date_small _ c.date_at-s.result c.requires c.date_at-s.ensures in ok (omega (arith, small.month))

pub returns : goal.returns
returns c = let e = c.date_at-s.ensures in plain_law c.date_at-s.result (date_small _ c.date_at-s.result c.requires e) ∙ ap plain e
