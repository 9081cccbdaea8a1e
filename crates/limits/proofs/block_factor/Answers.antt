-- `block_factor` meets its contract: the table is right at each power. Assumes nothing.
use mathlib.Core.Path.{◌≡◌, refl}
use mathlib.Core.List.{List, [], ◌∷◌}
use Prim.Native.Nat.{ℕ, zero, suc, ◌%◌, ◌^◌, ◌≤◌, ◌<◌}
use native.Mathlib.Omega.{arith}
use lib.ListN.{get_or}
use Rattle.units.specs.Units.{coarse_tau, powers}
use Rattle.limits.specs.Limits.{factor}
use Rattle.limits.specs.Machine.Magnitudes.{factor_limit}
use Rattle.limits.proofs.block_factor.Goals as goal

abbrev factors : List ℕ
factors = coarse_tau ^ 0 ∷ coarse_tau ^ 1 ∷ coarse_tau ^ 2 ∷ coarse_tau ^ 3 ∷ coarse_tau ^ 4 ∷ coarse_tau ^ 5 ∷ []

-- The table at a power p.
at_power : (p : ℕ) → p < powers → (get_or factors p 0 ≡ coarse_tau ^ p) × (get_or factors p 0 ≤ factor_limit)
at_power zero h = (refl, omega arith)
at_power (suc zero) h = (refl, omega arith)
at_power (suc (suc zero)) h = (refl, omega arith)
at_power (suc (suc (suc zero))) h = (refl, omega arith)
at_power (suc (suc (suc (suc zero)))) h = (refl, omega arith)
at_power (suc (suc (suc (suc (suc zero))))) h = (refl, omega arith)
at_power (suc (suc (suc (suc (suc (suc p)))))) h = absurd (omega arith)

pub returns : goal.returns
unfolding factor
returns c = at_power (c.args.k % powers) (omega arith)
