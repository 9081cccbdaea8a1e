-- The word of the theorem `quarter_opens` in proofs/Quarter: how the working sine and cosine go from an angle on to another.
use Rattle.std.specs.Prelude.{ℤ}
use Rattle.integers.specs.Order.{◌≼◌}
use Rattle.cosine.specs.Cosine.{cosine, sine}

-- From x on to x' the sine does not fall and the cosine does not rise.
pub record Opens (x x' : ℤ) : Type 0 where
  pub sine_rises : sine x ≼ sine x'
  pub cosine_falls : cosine x' ≼ cosine x
