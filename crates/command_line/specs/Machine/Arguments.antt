-- How far the programs' arguments are counted.
use Rattle.std.specs.Prelude.{ℕ}

-- The greatest number of an argument that is asked for with those after it. It is far below the greatest usize, so that these can be counted.
abbrev pub argument_limit : ℕ
argument_limit = 1000

-- The greatest number of the argument with which the arguments of one run begin: all of them are then within that limit.
abbrev pub first_limit : ℕ
first_limit = 900
