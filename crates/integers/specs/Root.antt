-- The floor of a square root.
use Rattle.std.specs.Prelude.{ℕ, zero, suc, ◌+◌, ◌*◌}
use Rattle.std.proofs.Math.Decide.{dec_le}

-- The largest r with r * r ≤ n.
unfoldable pub root : ℕ → ℕ
root zero = 0
root (suc n) = elim (dec_le ((root n + 1) * (root n + 1)) (suc n)) [ yes h ↦ root n + 1 | no f ↦ root n ]
