-- The size of a vector's components.
use Rattle.std.specs.Prelude.{ℕ, ◌+◌, ◌/◌, ◌≤◌, nat_abs}
use Rattle.rectangular.specs.declared.Vector.{Vector}

pub record Components (k : ℕ) (v : Vector) : Type 0 where
  pub x_in : nat_abs v.x ≤ k
  pub y_in : nat_abs v.y ≤ k
  pub z_in : nat_abs v.z ≤ k

-- A bound on what k grows to in the turn to the frame of the catalogues: at most a millionth of it and a part more.
abbrev pub grown : ℕ → ℕ
grown k = k + k / 1000000 + 1
