-- How great the angles are whose cosine and sine are worked out.
use Rattle.std.specs.Prelude.{ℕ, ◌*◌}
use Rattle.units.specs.Units.{wide_total}

-- The greatest |L| and |B| in parts. Six blocks of at most `wide_total` give no greater one at four millennia: 1 + 4 + 16 + 64 + 256 + 1024 is 1365.
-- Nor do six of at most `total_limit` at two.
abbrev pub angle_limit : ℕ
angle_limit = 1365 * wide_total
