-- The light time and the earlier instant, as the code works them; a marked figure. Assumes nothing.
use mathlib.Core.Path.{◌≡◌, refl, sym, ap₂, ◌∙◌, subst}
use Prim.Native.Nat.{ℕ, ◌*◌, ◌^◌, ◌≤◌, ◌<◌}
use native.Mathlib.Omega.{arith}
use lib.IntN.{ℤ, pos, nat_abs, ◌-ℤ◌, ◌*ℤ◌}
use mir.Syntax.{w64}
use mir.Val.{SFits}
use Rattle.integers.specs.Division.{rounded, floor}
use Rattle.integers.proofs.Order.{nat_abs_sub, nat_abs-*, fits}
use Rattle.arith.proofs.Ranges.{rounded_within}
use Rattle.units.specs.Units.{parts, t_limit}
use Rattle.units.specs.declared.Instant.{Instant}
use Rattle.arith.proofs.Cells.{Cell, cell}
use Rattle.place.specs.Apparent.{light_ns, ns_per_ms, light_time, earlier}

light_is : (d : ℕ) → rounded (pos light_ns *ℤ pos d) (10000000 * 10000000000) ≡ light_time d
unfolding light_time
light_is d = refl

-- Below 2^46 parts it is less than 2^30 ms.
light_in : (d : ℕ) → d < 2 ^ 46 → nat_abs (light_time d) ≤ 2 ^ 30
unfolding light_time
light_in d h = rounded_within (pos light_ns *ℤ pos d) (ns_per_ms * parts) (2 ^ 30) (omega arith) (rw (nat_abs-* (pos light_ns) (pos d)) (omega arith))

pub light_told : (d : ℕ) (z : ℤ) → d < 2 ^ 46 → z ≡ rounded (pos light_ns *ℤ pos d) (10000000 * 10000000000) → Cell z ≡ light_time d
light_told d z h e =
    let p : z ≡ light_time d = e ∙ light_is d in
    cell z (subst (λ (w : ℤ). nat_abs w < 2 ^ 63) (sym p) (let k = light_in d h in omega arith)) ∙ p

module _ (t : Instant) (d : ℕ) (h : nat_abs t.ms ≤ t_limit) (l : d < 2 ^ 46) (z : ℤ) (e : z ≡ light_time d) where
  light_cell : Cell z ≡ light_time d
  light_cell = cell z (subst (λ (w : ℤ). nat_abs w < 2 ^ 63) (sym e) (let k = light_in d l in omega arith)) ∙ e

  difference_in : nat_abs (t.ms -ℤ light_time d) < 2 ^ 63
  difference_in = let s = nat_abs_sub t.ms (light_time d) in let k = light_in d l in omega arith

  cells_are : Cell t.ms -ℤ Cell z ≡ t.ms -ℤ light_time d
  cells_are = ap₂ ◌-ℤ◌ (cell t.ms (omega arith)) light_cell

  pub earlier_asks : SFits w64 (Cell t.ms -ℤ Cell z)
  earlier_asks = subst (SFits w64) (sym cells_are) (fits (t.ms -ℤ light_time d) difference_in)

  pub earlier_is : ◌≡◌ {A = Instant} (record { ms = Cell (Cell t.ms -ℤ Cell z) }) (earlier t d)
  unfolding earlier
  earlier_is = rw (cells_are, cell (t.ms -ℤ light_time d) difference_in)

-- A marked figure of the rules, and the light times of the least usable D and of 128 AU.
pub light_times : (light_time 105919798623 ≡ pos 528545) × (light_time 10000000000 ≡ pos 49900) × (light_time 12800000000000 ≡ pos 63872612)
unfolding light_time rounded floor
light_times = (refl, refl, refl)
