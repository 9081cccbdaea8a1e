-- What the code knows of a heading that it has judged and not refused. Held by the code, no part of the rules.
use Rattle.std.specs.Prelude.{true, ◌≡◌, ℕ, ◌≤◌, ◌<◌}
use Rattle.units.specs.Units.{block_count}
use Rattle.limits.specs.declared.Tally.{Tally}
use Rattle.limits.specs.Limits.{count_fits}
use Rattle.published_headings.specs.Judge.{block_of}

-- So much holds of a heading of block k, with the count n, that may come.
pub record MayCome (done : ℕ) (s : Tally) (coordinate power n k : ℕ) : Type 0 where
  pub block : k ≡ block_of coordinate power
  pub onward : done ≤ k
  pub inside : k < block_count
  pub fits : count_fits s n ≡ true
