-- The figures of a window that fits, and that its minutes are within a limit of time where the first and the last are. Assumes nothing.
use mathlib.Core.Path.{◌≡◌, refl}
use mathlib.Core.Bool.{true, ◌&&◌}
use mathlib.Core.List.{[], ◌∷◌}
use Prim.Native.Nat.{ℕ, ◌*◌, ◌-◌, ◌≤◌, ◌<◌}
use native.Mathlib.Omega.{arith}
use borrow.Author.Tests.{leb-true}
use lib.Dec.{le→leb}
use lib.IntN.{ℤ, pos, negsuc, nat_abs, ◌+ℤ◌}
use lib.Signed.{le_z}
use Rattle.integers.specs.Order.{◌≼◌}
use Rattle.integers.proofs.Pairs.{nonneg}
use Rattle.integers.proofs.Tests.{both, false_true}
use Rattle.integers.proofs.Auto.{polys, cert!, gap, ◌⊞◌}
use Rattle.integers.proofs.Order.{nat_abs_low, nat_abs_high, nat_abs_le}
use Rattle.units.specs.Units.{minute_ms, within}
use Rattle.units.proofs.Limit.{size_within}
use Rattle.units.specs.declared.Instant.{Instant}
use Rattle.separation.specs.Arcminutes.{least_keep_out, greatest_keep_out}
use Rattle.runs.specs.Runs.{most_minutes}
use Rattle.sunlist.specs.SunList.{minute, window_fits}

-- A whole number from a to b.
pub record From (a b : ℕ) (z : ℤ) : Type 0 where
  pub whole : z ≡ pos (nat_abs z)
  pub least : a ≤ nat_abs z
  pub most : nat_abs z ≤ b

from : (a b : ℕ) (z : ℤ) → le_z (pos a) z ≡ true → le_z z (pos b) ≡ true → From a b z
from a b (pos n) h k = record { whole = refl; least = leb-true a n h; most = leb-true n b k }
from a b (negsuc n) h k = absurd (false_true h)

pub record Fits (minutes keep_out : ℤ) : Type 0 where
  pub minutes_in : From 1 most_minutes minutes
  pub keep_out_in : From least_keep_out greatest_keep_out keep_out

pub fits_is : (minutes keep_out : ℤ) → window_fits minutes keep_out ≡ true → Fits minutes keep_out
unfolding window_fits
fits_is minutes keep_out e =
    let h = both (le_z (pos least_keep_out) keep_out && le_z keep_out (pos greatest_keep_out)) (le_z (pos 1) minutes && le_z minutes (pos most_minutes)) e in
    let k = both (le_z (pos least_keep_out) keep_out) (le_z keep_out (pos greatest_keep_out)) h.0 in
    let m = both (le_z (pos 1) minutes) (le_z minutes (pos most_minutes)) h.1 in
    record { minutes_in = from 1 most_minutes minutes m.0 m.1; keep_out_in = from least_keep_out greatest_keep_out keep_out k.0 k.1 }

-- Between two instants that are within the limit.
between : (t : ℤ) (a b l : ℕ) → nat_abs t ≤ l → nat_abs (t +ℤ pos b) ≤ l → a ≤ b → nat_abs (t +ℤ pos a) ≤ l
between t a b l h k m =
    let low = nat_abs_low t l h in
    let high = nat_abs_high (t +ℤ pos b) l k in
    let o : pos a ≼ pos b = record { le = le→leb a b m } in
    nat_abs_le (t +ℤ pos a) l
    (cert! (t ∷ pos a ∷ pos l ∷ []) 0 (gap low ⊞ nonneg a) (search polys depth 30) tt)
    (cert! (t ∷ pos a ∷ pos b ∷ pos l ∷ []) 0 (gap high ⊞ gap o) (search polys depth 30) tt)

-- The limit of t, or two millennia.
pub minute_in : (limit : ℕ) (t0 : Instant) (n j : ℕ) → within limit t0.ms ≡ true → within limit (minute t0 (n - 1)).ms ≡ true → j < n
    → nat_abs (minute t0 j).ms ≤ limit
minute_in limit t0 n j h k l =
    between t0.ms (minute_ms * j) (minute_ms * (n - 1)) limit (size_within limit _ h) (size_within limit _ k) (omega arith)
