-- Angles in arcminutes (RULES, "Sun list").
use Rattle.std.specs.Prelude.{ℕ}

-- In a turn.
abbrev pub arcminutes : ℕ
arcminutes = 21600

-- The keep-outs that the list takes.
abbrev pub least_keep_out : ℕ
least_keep_out = 60

abbrev pub greatest_keep_out : ℕ
greatest_keep_out = 2700
