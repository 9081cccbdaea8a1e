-- `date_at` meets its contract. Assumes nothing.
use native.Mathlib.Omega.{arith}
use Rattle.calendar.specs.Machine.Shifted.{year_of}
use Rattle.calendar.proofs.DayToDate.{count_small, asked}
use Rattle.calendar.proofs.naturals.date_at.Goals as goal

pub overflow_add-a : goal.overflow_add-a
overflow_add-a c = omega (arith, count_small _ c.requires, c.julian_count-j.ensures)

pub overflow_mul-a : goal.overflow_mul-a
overflow_mul-a c = omega (arith, count_small _ c.requires, c.julian_count-j.ensures)

pub overflow_add-a-2 : goal.overflow_add-a-2
overflow_add-a-2 c = omega (arith, count_small _ c.requires, c.julian_count-j.ensures)

pub overflow_add-r : goal.overflow_add-r
overflow_add-r c = omega (arith, count_small _ c.requires, c.julian_count-j.ensures)

pub overflow_mul-r : goal.overflow_mul-r
overflow_mul-r c = omega (arith, count_small _ c.requires, c.julian_count-j.ensures)

pub from_march-requires : goal.from_march-requires
unfolding year_of
from_march-requires c = asked _ c.requires _ c.julian_count-j.ensures

pub returns : goal.returns
unfolding year_of
returns c = rw (c.from_march.ensures, c.julian_count-j.ensures)
