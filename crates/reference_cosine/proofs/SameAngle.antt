-- The reference cosine and sine depend on the fraction n/N alone, and not on how it is written. Assumes nothing.
use mathlib.Core.Path.{◌≡◌, sym, ap, ◌∙◌, subst, subst₂}
use mathlib.Core.Logic.{◌⊎◌, inl, inr}
use mathlib.Core.List.{[], ◌∷◌}
use Prim.Native.Nat.{ℕ, ◌*◌, ◌<◌}
use native.Mathlib.Omega.{arith}
use lib.IntN.{ℤ, pos, ◌+ℤ◌, ◌-ℤ◌, ◌*ℤ◌}
use Rattle.integers.specs.Order.{◌≼◌, ◌≺◌}
use Rattle.integers.proofs.Pairs.{nonneg}
use Rattle.integers.proofs.Auto.{ring!, cert!, polys, gap, gap<, gap≡, ◌⊞◌, ◌⊛◌, ◌·◌}
use Rattle.integers.proofs.Order.{≼-or-≺, ≼-antisym, ≺-nat}
use Rattle.integers.specs.Division.{rounded, modulo}
use Rattle.integers.proofs.Division.{rounded_low, rounded_high}
use Rattle.integers.specs.Fractions.{Fraction, ◌≈ᶠ◌}
use Rattle.units.specs.Units.{two_pi as A, four_radians as F}
use Rattle.reference_cosine.specs.Reference.{ref_q, ref_r, reference_cosine, reference_sine}
use Rattle.integers.proofs.Near.{Near}
use Rattle.reference_cosine.proofs.Lipschitz.{f_up, f_low, near_f}
use Rattle.reference_cosine.proofs.Reductions.{R'_angle}
use Rattle.reference_cosine.proofs.AnyAngle.{ref_most, ref_least}
use Rattle.reference_cosine.proofs.QuarterShift.{nested, reference_is, reference_sine_is}

rounded_below : (n n' : ℤ) (d d' : ℕ) → 0 < d → 0 < d' → n *ℤ pos d' ≡ n' *ℤ pos d → rounded n d ≼ rounded n' d'
rounded_below n n' d d' h h' e = go (≼-or-≺ (rounded n d) (rounded n' d'))
  where
    go : (rounded n d ≼ rounded n' d') ⊎ (rounded n' d' ≺ rounded n d) → rounded n d ≼ rounded n' d'
    go (inl l) = l
    go (inr l) =
        let bad : pos 1 ≼ pos 0 = cert! (n ∷ n' ∷ pos d ∷ pos d' ∷ rounded n d ∷ rounded n' d' ∷ []) 0
        (2 · (nonneg d ⊛ nonneg d' ⊛ gap< l) ⊞ nonneg d' ⊛ gap (rounded_low n d h) ⊞ nonneg d ⊛ gap< (rounded_high n' d' h') ⊞ 2 · gap≡ e ⊞ gap< (≺-nat d h))
        (search polys depth 60 fits 100000) tt in
        absurd bad.le

-- rounding depends on the fraction alone
rounded_same : (n n' : ℤ) (d d' : ℕ) → 0 < d → 0 < d' → n *ℤ pos d' ≡ n' *ℤ pos d → rounded n d ≡ rounded n' d'
rounded_same n n' d d' h h' e = ≼-antisym (rounded n d) (rounded n' d') (rounded_below n n' d d' h h' e) (rounded_below n' n d' d h' h (sym e))

scaled : (n n' N N' : ℤ) → n *ℤ N' ≡ n' *ℤ N → n *ℤ pos F *ℤ (pos A *ℤ N') ≡ n' *ℤ pos F *ℤ (pos A *ℤ N)
scaled n n' N N' e = out n N' ∙ ap (λ t. pos F *ℤ pos A *ℤ t) e ∙ sym (out n' N)
  where
    out : (n N : ℤ) → n *ℤ pos F *ℤ (pos A *ℤ N) ≡ pos F *ℤ pos A *ℤ (n *ℤ N)
    out n N = ring! (n ∷ N ∷ []) (search polys depth 60 fits 100000) tt

same_q : (n n' : ℤ) (N N' : ℕ) → 0 < N → 0 < N' → n *ℤ pos N' ≡ n' *ℤ pos N → ref_q n N ≡ ref_q n' N'
unfolding ref_q
same_q n n' N N' h h' e = rounded_same (n *ℤ pos F) (n' *ℤ pos F) (A * N) (A * N') (omega arith) (omega arith) (scaled n n' (pos N) (pos N') e)

no_gap : (n n' N N' q : ℤ) → n *ℤ N' ≡ n' *ℤ N
    → Near (pos 1) (pos 0) (n *ℤ pos F -ℤ q *ℤ (pos A *ℤ N)) (pos F *ℤ N) (n' *ℤ pos F -ℤ q *ℤ (pos A *ℤ N')) (pos F *ℤ N')
no_gap n n' N N' q e =
    let ρ = n ∷ n' ∷ N ∷ N' ∷ q ∷ [] in
    record {
      hi = cert! ρ 0 (16000000000000000000000000000000000000000000000000000000000000 · gap≡ e) (search polys depth 60 fits 100000) tt;
      lo = cert! ρ 0 (16000000000000000000000000000000000000000000000000000000000000 · gap≡ (sym e)) (search polys depth 60 fits 100000) tt;
    }

none : (a A b B : ℤ) → Near (pos 50 *ℤ pos 1) (pos 61 *ℤ pos 0) a A b B → a *ℤ B ≡ b *ℤ A
none a A b B h =
    let ρ = a ∷ A ∷ b ∷ B ∷ [] in
    ≼-antisym (a *ℤ B) (b *ℤ A) (cert! ρ 49 (gap h.hi) (search polys depth 60 fits 100000) tt)
    (cert! ρ 49 (gap h.lo) (search polys depth 60 fits 100000) tt)

at_shift : (j n n' : ℤ) (N N' : ℕ) → 0 < N → 0 < N' → n *ℤ pos N' ≡ n' *ℤ pos N
    → nested (modulo (ref_q n N +ℤ j) 4) (ref_r n N) (pos F *ℤ pos N) ≈ᶠ nested (modulo (ref_q n' N' +ℤ j) 4) (ref_r n' N') (pos F *ℤ pos N')
unfolding ref_r
at_shift j n n' N N' h h' e =
    let a = R'_angle (pos N) (ref_r n N) (≺-nat N h) (ref_most n N h) (ref_least n N h) in
    let b = R'_angle (pos N') (ref_r n' N') (≺-nat N' h') (ref_most n' N' h') (ref_least n' N' h') in
    let k = modulo (ref_q n N +ℤ j) 4 in
    let c : Near (pos 1) (pos 0) (ref_r n N) (pos F *ℤ pos N) (ref_r n' N') (pos F *ℤ pos N') =
    subst (λ q. Near (pos 1) (pos 0) (ref_r n N) (pos F *ℤ pos N) (n' *ℤ pos F -ℤ q *ℤ pos (A * N')) (pos F *ℤ pos N')) (same_q n n' N N' h h' e)
    (no_gap n n' (pos N) (pos N') (ref_q n N) e) in
    let same : nested k (ref_r n N) (pos F *ℤ pos N) ≈ᶠ nested k (ref_r n' N') (pos F *ℤ pos N') =
    none (f_up k (ref_r n N) (pos F *ℤ pos N)) (f_low k (pos F *ℤ pos N)) (f_up k (ref_r n' N') (pos F *ℤ pos N')) (f_low k (pos F *ℤ pos N'))
    (near_f k (ref_r n N) (pos F *ℤ pos N) (ref_r n' N') (pos F *ℤ pos N') (pos 0) (pos 1) a b (nonneg 0) c) in
    subst (λ q. nested k (ref_r n N) (pos F *ℤ pos N) ≈ᶠ nested (modulo (q +ℤ j) 4) (ref_r n' N') (pos F *ℤ pos N')) (same_q n n' N N' h h' e) same

pub cosine_of_value : (n n' : ℤ) (N N' : ℕ) → 0 < N → 0 < N' → n *ℤ pos N' ≡ n' *ℤ pos N → reference_cosine n N ≈ᶠ reference_cosine n' N'
cosine_of_value n n' N N' h h' e = subst₂ (λ (x y : Fraction). x ≈ᶠ y) (reference_is n N) (reference_is n' N') (at_shift (pos 0) n n' N N' h h' e)

pub sine_of_value : (n n' : ℤ) (N N' : ℕ) → 0 < N → 0 < N' → n *ℤ pos N' ≡ n' *ℤ pos N → reference_sine n N ≈ᶠ reference_sine n' N'
sine_of_value n n' N N' h h' e = subst₂ (λ (x y : Fraction). x ≈ᶠ y) (reference_sine_is n N) (reference_sine_is n' N') (at_shift (pos 3) n n' N N' h h' e)
