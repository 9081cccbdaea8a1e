-- The limits as the code judges them: over magnitudes, with a factor that no block's passes.
use Rattle.std.specs.Prelude.{ℕ, ◌-◌, ◌^◌, pos}
use Rattle.units.specs.Units.{coarse_tau, powers}
use Rattle.limits.specs.declared.Term.{Term}

-- The greatest factor: that of the last power.
abbrev pub factor_limit : ℕ
factor_limit = coarse_tau ^ (powers - 1)

-- The term with |a| = m and |c| = n whose signs are plus: no limit asks for the signs.
abbrev pub unsigned : ℕ → ℕ → ℕ → Term
unsigned m b n = record { a = pos m; b = b; c = pos n }
