-- The working polynomials against the nested series at w/U. Assumes nothing.
use mathlib.Core.List.{List, [], ◌∷◌, ◌++◌}
use Prim.Native.Nat.{ℕ, zero, suc, ◌*◌, ◌+◌, ◌/◌, ◌%◌, ◌<◌}
use native.Mathlib.Omega.{arith}
use native.Mathlib.Nat.{div-add-mod, mod-lt}
use lib.IntN.{ℤ, pos, ◌+ℤ◌, ◌-ℤ◌, ◌*ℤ◌, neg_ℤ}
use Rattle.integers.specs.Order.{◌≼◌, ◌≺◌}
use Rattle.integers.proofs.Pairs.{nonneg}
use Rattle.integers.proofs.Auto.{cert!, polys, gap, gap<, ◌⊞◌, ◌⊛◌, ◌·◌, sqr}
use Rattle.integers.proofs.Order.{≺-≼, cert*!, ≼-nat, ≺-nat}
use Rattle.integers.specs.Division.{rounded}
use Rattle.integers.proofs.Division.{rounded_low, rounded_high}
use Rattle.units.specs.Units.{U}
use Rattle.cosine.specs.Cosine.{horner, y_of, even_part, odd_part, evens, odds, cosine_by}
use Rattle.reference_cosine.proofs.Divisors.{all_evens, all_odds, low_by_quarter}
use Rattle.reference_cosine.proofs.NestedSeries.{low, up, Good, range'}
use Rattle.integers.proofs.Near.{Near, near_neg}
use Rattle.reference_cosine.proofs.Lipschitz.{Angle, angle_small, C_up, C_low, S_up, S_low, f_up, f_low, good_evens, good_odds}

-- ---- a bound by a whole number survives rounding

halves : (i j : ℤ) → pos 2 *ℤ i ≼ pos 2 *ℤ j +ℤ pos 1 → i ≼ j
halves i j h = cert! (i ∷ j ∷ []) 1 (gap h) (search polys depth 60 fits 100000) tt

pub rounded_most : (n i : ℤ) (d : ℕ) → 0 < d → n ≼ pos d *ℤ i → rounded n d ≼ i
rounded_most n i d h k =
    halves (rounded n d) i (cert*! (n ∷ i ∷ pos d ∷ rounded n d ∷ []) (pos d) (≺-nat d h) (gap (rounded_low n d h) ⊞ 2 · gap k)
    (search polys depth 60 fits 100000) tt)

pub rounded_least : (n i : ℤ) (d : ℕ) → 0 < d → pos d *ℤ i ≼ n → i ≼ rounded n d
rounded_least n i d h k =
    halves i (rounded n d) (cert*! (n ∷ i ∷ pos d ∷ rounded n d ∷ []) (pos d) (≺-nat d h) (gap< (rounded_high n d h) ⊞ 2 · gap k)
    (search polys depth 60 fits 100000) tt)

-- ---- the working Horner values lie from 0 to U

pub record UnitRange (p : ℤ) : Type 0 where
  pub least : pos 0 ≼ p
  pub most : p ≼ pos U

horner_step : (y p : ℤ) (d : ℕ) → 0 < d → UnitRange y → UnitRange p → UnitRange (pos U -ℤ rounded (y *ℤ p) (U * d))
horner_step y p d h a b =
    let r = rounded (y *ℤ p) (U * d) in
    let D : 0 < U * d = omega arith in
    let one : pos 1 ≼ pos d = ≼-nat 1 d h in
    let lo : pos 0 ≼ r = rounded_least (y *ℤ p) (pos 0) (U * d) D (cert! (y ∷ p ∷ pos d ∷ []) 0 (a.least ⊛ b.least) (search polys depth 60 fits 100000) tt) in
    let hi : r ≼ pos U = rounded_most (y *ℤ p) (pos U) (U * d) D
    (cert! (y ∷ p ∷ pos d ∷ []) 0 (gap a.most ⊛ b.least ⊞ 1000000000 · gap b.most ⊞ 1000000000000000000 · gap one)
    (search polys depth 60 fits 100000) tt) in
    record { least = cert! (r ∷ []) 0 (gap hi) (search polys depth 60 fits 100000) tt; most = cert! (r ∷ []) 0 lo (search polys depth 60 fits 100000) tt }

pub horner_range : (y : ℤ) (ds : List ℕ) → Good ds → UnitRange y → UnitRange (horner y ds)
unfolding horner
horner_range y [] g a = record { least = record { le = tt }; most = record { le = tt } }
horner_range y (d ∷ ds) g a = horner_step y (horner y ds) d g.0 a (horner_range y ds g.1 a)

pub y_range : (w : ℤ) → Angle w (pos U) → UnitRange (y_of w)
unfolding y_of
y_range w a = record {
  least = rounded_least (w *ℤ w) (pos 0) U (omega arith) (cert! (w ∷ []) 0 (sqr w) (search polys depth 60 fits 100000) tt);
  most = rounded_most (w *ℤ w) (pos U) U (omega arith) (cert! (w ∷ []) 999 (gap (angle_small a).small) (search polys depth 60 fits 100000) tt);
}

-- ---- |p/U − u/l| is at most e millionths of 1/U

pub record Close (e p u l : ℤ) : Type 0 where
  pub hi : pos 1000000 *ℤ (p *ℤ l -ℤ pos U *ℤ u) ≼ e *ℤ l
  pub lo : pos 1000000 *ℤ (pos U *ℤ u -ℤ p *ℤ l) ≼ e *ℤ l

close_step : (y p Z u l e e' : ℤ) (d : ℕ) → 0 < d → UnitRange p → pos 0 ≼ Z → pos 1000 *ℤ Z ≼ pos 617 *ℤ (pos U *ℤ pos U)
    → pos (2 * U) *ℤ y ≼ pos 2 *ℤ Z +ℤ pos U → pos 2 *ℤ Z +ℤ pos U ≺ pos (2 * U) *ℤ (y +ℤ pos 1)
    → pos 0 ≼ l → pos 0 ≼ e → Close e p u l
    → pos 1000000000 *ℤ pos d +ℤ pos 1000000000 +ℤ pos 1234 *ℤ e ≼ pos 2000 *ℤ pos d *ℤ e'
    → Close e' (pos U -ℤ rounded (y *ℤ p) (U * d)) (pos d *ℤ (pos U *ℤ pos U) *ℤ l -ℤ Z *ℤ u) (pos d *ℤ (pos U *ℤ pos U) *ℤ l)
close_step y p Z u l e e' d h rp hZ hm yl yh hl he ih hc =
    let r = rounded (y *ℤ p) (U * d) in
    let D : 0 < U * d = omega arith in
    let ρ = y ∷ p ∷ Z ∷ u ∷ l ∷ e ∷ e' ∷ pos d ∷ r ∷ [] in
    record {
      hi = cert! ρ 1999
          (1000000000000000000 · (hl ⊛ gap hc) ⊞ 1000000000000000000 · (hl ⊛ (gap< (rounded_high (y *ℤ p) (U * d) D) ⊞ nonneg 1))
          ⊞ 1000000000 · (rp.least ⊛ hl ⊛ (gap< yh ⊞ nonneg 1))
          ⊞ 2000 · (hZ ⊛ gap ih.lo) ⊞ 1000000000000000000 · (hl ⊛ gap rp.most) ⊞ 2 · (he ⊛ hl ⊛ gap hm)) (search polys depth 60 fits 100000) tt;
      lo = cert! ρ 1999
          (1000000000000000000 · (hl ⊛ gap hc) ⊞ 1000000000000000000 · (hl ⊛ gap (rounded_low (y *ℤ p) (U * d) D)) ⊞ 1000000000 · (rp.least ⊛ hl ⊛ gap yl)
          ⊞ 2000 · (hZ ⊛ gap ih.hi) ⊞ 1000000000000000000 · (hl ⊛ gap rp.most) ⊞ 2 · (he ⊛ hl ⊛ gap hm)) (search polys depth 60 fits 100000) tt;
    }

-- above (1/2 + (1/2 + 0.617·e) / d), in millionths of 1/U, from the last divisor to the first
unfoldable pub err : ℕ → List ℕ → ℕ
err e [] = e
err e (d ∷ ds) = suc ((1000000000 * d + 1000000000 + 1234 * err e ds) / (2000 * d))

err_step : (d k : ℕ) → 0 < d → pos 1000000000 *ℤ pos d +ℤ pos 1000000000 +ℤ pos 1234 *ℤ pos k
    ≼ pos 2000 *ℤ pos d *ℤ pos (suc ((1000000000 * d + 1000000000 + 1234 * k) / (2000 * d)))
err_step d k h =
    let n = 1000000000 * d + 1000000000 + 1234 * k in
    let e = div-add-mod n (2000 * d) in
    let l : n % (2000 * d) < 2000 * d = mod-lt n (omega arith) in
    ≼-nat n (2000 * d * suc (n / (2000 * d))) (omega arith)

close_base : (Z u l : ℤ) (d e : ℕ) → pos 0 ≼ Z → pos 1000 *ℤ Z ≼ pos 617 *ℤ (pos U *ℤ pos U) → pos 0 ≼ l → pos 0 ≼ u → u ≼ l
    → pos 617000000000000 ≼ pos e *ℤ pos d
    → Close (pos e) (pos U) (pos d *ℤ (pos U *ℤ pos U) *ℤ l -ℤ Z *ℤ u) (pos d *ℤ (pos U *ℤ pos U) *ℤ l)
close_base Z u l d e hZ hm hl hu hul hc =
    let ρ = Z ∷ u ∷ l ∷ pos d ∷ pos e ∷ [] in
    record {
      hi = cert! ρ 0 (1000000000000000000 · (hl ⊛ gap hc) ⊞ 1000000000000 · (gap hm ⊛ hl) ⊞ 1000000000000000 · (hZ ⊛ gap hul))
          (search polys depth 60 fits 100000) tt;
      lo = cert! ρ 0 (1000000000000000 · (hZ ⊛ hu) ⊞ 1000000000000000000 · (nonneg d ⊛ nonneg e ⊛ hl)) (search polys depth 60 fits 100000) tt;
    }

y_low : (w : ℤ) → pos (2 * U) *ℤ y_of w ≼ pos 2 *ℤ (w *ℤ w) +ℤ pos U
unfolding y_of
y_low w = rounded_low (w *ℤ w) U (omega arith)

y_high : (w : ℤ) → pos 2 *ℤ (w *ℤ w) +ℤ pos U ≺ pos (2 * U) *ℤ (y_of w +ℤ pos 1)
unfolding y_of
y_high w = rounded_high (w *ℤ w) U (omega arith)

pub close : (w : ℤ) → Angle w (pos U) → (e d : ℕ) (rest : List ℕ) → pos 617000000000000 ≼ pos e *ℤ pos d → (ds : List ℕ) → Good ds → Good (ds ++ (d ∷ rest))
    → Close (pos (err e ds)) (horner (y_of w) ds) (up (pos U *ℤ pos U) (w *ℤ w) (ds ++ (d ∷ rest))) (low (pos U *ℤ pos U) (ds ++ (d ∷ rest)))
unfolding horner up low err
close w a e d rest hc [] g g' =
    let s = angle_small a in
    let r = range' rest g'.1 s in
    close_base (w *ℤ w) (up (pos U *ℤ pos U) (w *ℤ w) rest) (low (pos U *ℤ pos U) rest) d e (sqr w) s.small (≺-≼ r.above) r.least r.most hc
close w a e d rest hc (d' ∷ ds) g g' =
    let s = angle_small a in
    let r = range' (ds ++ (d ∷ rest)) g'.1 s in
    close_step (y_of w) (horner (y_of w) ds) (w *ℤ w) (up (pos U *ℤ pos U) (w *ℤ w) (ds ++ (d ∷ rest))) (low (pos U *ℤ pos U) (ds ++ (d ∷ rest)))
    (pos (err e ds)) (pos (suc ((1000000000 * d' + 1000000000 + 1234 * err e ds) / (2000 * d')))) d' g.0
    (horner_range (y_of w) ds g.1 (y_range w a)) (sqr w) s.small (y_low w) (y_high w) (≺-≼ r.above) (nonneg (err e ds))
    (close w a e d rest hc ds g.1 g'.1)
    (err_step d' (err e ds) g.0)

-- 617·10^12 / 182 and / 210, the seventh divisors
err_evens : pos (err 3390109890110 evens) ≼ pos 926000
unfolding err
err_evens = record { le = tt }

err_odds : pos (err 2938095238096 odds) ≼ pos 640000
unfolding err
err_odds = record { le = tt }

-- ---- the two parts, within 1.003/U

even_law : (e h u l : ℤ) → pos 0 ≼ l → e ≼ pos 926000 → Close e h u l → Near (pos 1000 *ℤ pos U) (pos 1003) h (pos U) u l
even_law e h u l hl he c =
    let ρ = e ∷ h ∷ u ∷ l ∷ [] in
    record {
      hi = cert! ρ 0 (1000000 · gap c.hi ⊞ 1000000 · (hl ⊛ gap he) ⊞ 77000000000 · hl) (search polys depth 60 fits 100000) tt;
      lo = cert! ρ 0 (1000000 · gap c.lo ⊞ 1000000 · (hl ⊛ gap he) ⊞ 77000000000 · hl) (search polys depth 60 fits 100000) tt;
    }

odd_law : (w e h u l : ℤ) → Angle w (pos U) → pos 0 ≼ l → e ≼ pos 640000 → Close e h u l
    → Near (pos 1000 *ℤ pos U) (pos 1003) (rounded (w *ℤ h) U) (pos U) (w *ℤ u) (pos U *ℤ l)
odd_law w e h u l a hl he c =
    let o = rounded (w *ℤ h) U in
    let ρ = w ∷ e ∷ h ∷ u ∷ l ∷ o ∷ [] in
    record {
      hi = cert! ρ 9999999 (1000000000 · (5000000000 · (hl ⊛ gap (rounded_low (w *ℤ h) U (omega arith))) ⊞ gap c.hi ⊛ gap a.least
          ⊞ gap c.lo ⊛ gap a.most ⊞ 7854000000000 · (hl ⊛ gap he) ⊞ 3440000000000000 · hl)) (search polys depth 60 fits 100000) tt;
      lo = cert! ρ 9999999 (1000000000 · (5000000000 · (hl ⊛ (gap< (rounded_high (w *ℤ h) U (omega arith)) ⊞ nonneg 1)) ⊞ gap c.lo ⊛ gap a.least
          ⊞ gap c.hi ⊛ gap a.most ⊞ 7854000000000 · (hl ⊛ gap he) ⊞ 3440000000000000 · hl)) (search polys depth 60 fits 100000) tt;
    }

near_even : (w : ℤ) → Angle w (pos U) → Near (pos 1000 *ℤ pos U) (pos 1003) (even_part w) (pos U) (C_up w (pos U)) (C_low (pos U))
unfolding even_part C_up C_low
near_even w a =
    even_law (pos (err 3390109890110 evens)) (horner (y_of w) evens) (up (pos U *ℤ pos U) (w *ℤ w) all_evens) (low (pos U *ℤ pos U) all_evens)
    (≺-≼ (range' all_evens good_evens (angle_small a)).above) err_evens
    (close w a 3390109890110 (13 * 14) (15 * 16 ∷ 17 * 18 ∷ 19 * 20 ∷ []) (record { le = tt }) evens (omega arith) good_evens)

near_odd : (w : ℤ) → Angle w (pos U) → Near (pos 1000 *ℤ pos U) (pos 1003) (odd_part w) (pos U) (S_up w (pos U)) (S_low (pos U))
unfolding odd_part S_up S_low
near_odd w a =
    odd_law w (pos (err 2938095238096 odds)) (horner (y_of w) odds) (up (pos U *ℤ pos U) (w *ℤ w) all_odds) (low (pos U *ℤ pos U) all_odds) a
    (≺-≼ (range' all_odds good_odds (angle_small a)).above) err_odds
    (close w a 2938095238096 (14 * 15) (16 * 17 ∷ 18 * 19 ∷ 20 * 21 ∷ []) (record { le = tt }) odds (omega arith) good_odds)

unfoldable pub working : ℕ → ℤ → ℤ
working k w = cosine_by neg_ℤ k (even_part w) (odd_part w)

-- the working cosine or sine of the quarter k and of w is within 1.003/U of f(k, w/U)
pub near_working : (k : ℕ) (w : ℤ) → Angle w (pos U) → Near (pos 1000 *ℤ pos U) (pos 1003) (working k w) (pos U) (f_up k w (pos U)) (f_low k (pos U))
unfolding working f_up f_low cosine_by low_by_quarter
near_working zero w a = near_even w a
near_working (suc zero) w a = near_neg (near_odd w a)
near_working (suc (suc zero)) w a = near_neg (near_even w a)
near_working (suc (suc (suc k))) w a = near_odd w a
