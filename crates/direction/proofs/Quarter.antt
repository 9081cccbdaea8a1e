-- From 0 to a quarter turn the working sine never falls and the working cosine never rises. Assumes nothing.
use mathlib.Core.Path.{◌≡◌, refl, sym, ap, subst₂}
use mathlib.Core.List.{[], ◌∷◌}
use mathlib.Core.Logic.{◌⊎◌, inl, inr}
use Prim.Native.Nat.{◌*◌, ◌-◌}
use lib.Dec.{lit<}
use lib.IntN.{ℤ, pos, ◌+ℤ◌, ◌-ℤ◌, ◌*ℤ◌, neg_ℤ}
use lib.Signed.{≤ℤ_refl}
use Rattle.integers.specs.Order.{◌≼◌, ◌≺◌}
use Rattle.integers.specs.Division.{floor, rounded, modulo}
use Rattle.integers.proofs.Pairs.{≤ℤ-trans}
use Rattle.integers.proofs.Auto.{ring!, cert!, cert<!, polys, gap, gap<, ◌⊞◌, ◌·◌}
use Rattle.integers.proofs.Order.{≼-or-≺}
use Rattle.integers.proofs.Division.{floor_is, rounded_low, rounded_high}
use Rattle.integers.proofs.Rounding.{rounded_mono}
use Rattle.units.specs.Units.{quarter, angle_step}
use Rattle.cosine.specs.Cosine.{horner, evens, y_of, even_part, odd_part, q_of, r_of, w_of, cosine_by, sine_by, working_cosine, working_sine, cosine, sine}
use Rattle.direction.specs.Promises.{Opens}
use Rattle.direction.proofs.Rising.{y_neg, even_falls, odd_rises, odd_rises⁻, w_most}

-- ---- in the lower half of the quarter q is 0, in the upper half 1

q_zero : (x : ℤ) → pos 0 ≼ x → pos 2 *ℤ x ≺ pos quarter → q_of quarter x ≡ pos 0
unfolding q_of rounded
q_zero x h k =
    floor_is (pos 2 *ℤ x +ℤ pos quarter) (pos 0) (2 * quarter) (lit< tt)
    (cert! (x ∷ []) 0 (2 · h) (search polys depth 60 fits 100000) tt)
    (cert<! (x ∷ []) 0 (gap< k) (search polys depth 60 fits 100000) tt)

q_one : (x : ℤ) → pos quarter ≼ pos 2 *ℤ x → x ≼ pos quarter → q_of quarter x ≡ pos 1
unfolding q_of rounded
q_one x h k =
    floor_is (pos 2 *ℤ x +ℤ pos quarter) (pos 1) (2 * quarter) (lit< tt)
    (cert! (x ∷ []) 0 (gap h) (search polys depth 60 fits 100000) tt)
    (cert<! (x ∷ []) 0 (2 · gap k) (search polys depth 60 fits 100000) tt)

neg_neg : (w : ℤ) → neg_ℤ (neg_ℤ w) ≡ w
neg_neg w = ring! (w ∷ []) (search polys depth 60 fits 100000) tt

even_neg : (w : ℤ) → even_part (neg_ℤ w) ≡ even_part w
unfolding even_part
even_neg w = ap (λ t. horner t evens) (y_neg w)

record Lower (x w : ℤ) : Type 0 where
  cos : cosine x ≡ even_part w
  sin : sine x ≡ odd_part w
  least : pos 0 ≼ w
  most : w ≼ pos w_most

record Upper (x w : ℤ) : Type 0 where
  cos : cosine x ≡ neg_ℤ (odd_part (neg_ℤ w))
  sin : sine x ≡ even_part w
  least : pos 0 ≼ w
  most : w ≼ pos w_most

unfoldable lower_w : ℤ → ℤ
lower_w x = rounded (x -ℤ pos 0 *ℤ pos quarter) angle_step

unfoldable upper_w : ℤ → ℤ
upper_w x = neg_ℤ (rounded (x -ℤ pos 1 *ℤ pos quarter) angle_step)

lower_cos : (x : ℤ) → q_of quarter x ≡ pos 0 → cosine x ≡ even_part (lower_w x)
unfolding cosine working_cosine w_of r_of cosine_by modulo lower_w
lower_cos x e = rw e refl

lower_sin : (x : ℤ) → q_of quarter x ≡ pos 0 → sine x ≡ odd_part (lower_w x)
unfolding sine working_sine w_of r_of sine_by modulo lower_w
lower_sin x e = rw e refl

upper_cos : (x : ℤ) → q_of quarter x ≡ pos 1 → cosine x ≡ neg_ℤ (odd_part (neg_ℤ (upper_w x)))
unfolding cosine working_cosine w_of r_of cosine_by modulo upper_w
upper_cos x e = rw (e, neg_neg (rounded (x -ℤ pos 1 *ℤ pos quarter) angle_step)) refl

upper_sin : (x : ℤ) → q_of quarter x ≡ pos 1 → sine x ≡ even_part (upper_w x)
unfolding sine working_sine w_of r_of sine_by modulo upper_w
upper_sin x e = rw e (sym (even_neg (rounded (x -ℤ pos 1 *ℤ pos quarter) angle_step)))

lower : (x : ℤ) → pos 0 ≼ x → pos 2 *ℤ x ≺ pos quarter → Lower x (lower_w x)
lower x h k = record {
  cos = lower_cos x (q_zero x h k);
  sin = lower_sin x (q_zero x h k);
  least = lower_least;
  most = lower_most;
}
  where
    lower_least : pos 0 ≼ lower_w x
    lower_least = unfold lower_w in let r = x -ℤ pos 0 *ℤ pos quarter in
        cert! (x ∷ rounded r angle_step ∷ []) (2 * angle_step - 1) (gap< (rounded_high r angle_step (lit< tt)) ⊞ 2 · h) (search polys depth 60 fits 100000) tt

    lower_most : lower_w x ≼ pos w_most
    lower_most = unfold lower_w in let r = x -ℤ pos 0 *ℤ pos quarter in
        cert! (x ∷ rounded r angle_step ∷ []) (2 * angle_step - 1) (gap (rounded_low r angle_step (lit< tt)) ⊞ gap< k) (search polys depth 60 fits 100000) tt

upper : (x : ℤ) → pos quarter ≼ pos 2 *ℤ x → x ≼ pos quarter → Upper x (upper_w x)
upper x h k = record {
  cos = upper_cos x (q_one x h k);
  sin = upper_sin x (q_one x h k);
  least = upper_least;
  most = upper_most;
}
  where
    upper_least : pos 0 ≼ upper_w x
    upper_least = unfold upper_w in let r = x -ℤ pos 1 *ℤ pos quarter in
        cert! (x ∷ rounded r angle_step ∷ []) (2 * angle_step - 1) (gap (rounded_low r angle_step (lit< tt)) ⊞ 2 · gap k) (search polys depth 60 fits 100000) tt

    upper_most : upper_w x ≼ pos w_most
    upper_most = unfold upper_w in let r = x -ℤ pos 1 *ℤ pos quarter in
        cert! (x ∷ rounded r angle_step ∷ []) (2 * angle_step - 1) (gap< (rounded_high r angle_step (lit< tt)) ⊞ gap h) (search polys depth 60 fits 100000) tt

lower_rises : (x x' : ℤ) → x ≼ x' → lower_w x ≼ lower_w x'
unfolding lower_w
lower_rises x x' l = rounded_mono _ _ angle_step (lit< tt) (cert! (x ∷ x' ∷ []) 0 (gap l) (search polys depth 60 fits 100000) tt)

upper_falls : (x x' : ℤ) → x ≼ x' → upper_w x' ≼ upper_w x
unfolding upper_w
upper_falls x x' l =
    let r = x -ℤ pos 1 *ℤ pos quarter in
    let r' = x' -ℤ pos 1 *ℤ pos quarter in
    cert! (rounded r angle_step ∷ rounded r' angle_step ∷ []) 0
    (gap (rounded_mono r r' angle_step (lit< tt) (cert! (x ∷ x' ∷ []) 0 (gap l) (search polys depth 60 fits 100000) tt)))
    (search polys depth 60 fits 100000) tt

-- ---- where the halves meet, computed
meet_sine : odd_part (pos w_most) ≼ even_part (pos w_most)
unfolding odd_part even_part horner y_of rounded floor
meet_sine = record { le = tt }

meet_cosine : neg_ℤ (odd_part (neg_ℤ (pos w_most))) ≼ even_part (pos w_most)
unfolding odd_part even_part horner y_of rounded floor
meet_cosine = record { le = tt }

-- ---- from x on to x'
neg_le : (a b : ℤ) → a ≼ b → neg_ℤ b ≼ neg_ℤ a
neg_le a b l = cert! (a ∷ b ∷ []) 0 (gap l) (search polys depth 60 fits 100000) tt

by_parts : {a b c d : ℤ} → a ≡ c → b ≡ d → c ≼ d → a ≼ b
by_parts {a} {b} {c} {d} e f l = subst₂ (λ s t. s ≼ t) (sym e) (sym f) l

both_lower : (x x' w w' : ℤ) → Lower x w → Lower x' w' → w ≼ w' → Opens x x'
both_lower x x' w w' a b l = record {
  sine_rises = by_parts a.sin b.sin (odd_rises w w' a.least l b.most);
  cosine_falls = by_parts b.cos a.cos (even_falls w w' a.least l b.most);
}

both_upper : (x x' w w' : ℤ) → Upper x w → Upper x' w' → w' ≼ w → Opens x x'
both_upper x x' w w' a b l = record {
  sine_rises = by_parts a.sin b.sin (even_falls w' w b.least l a.most);
  cosine_falls = by_parts b.cos a.cos (neg_le _ _ (odd_rises⁻ w' w b.least l a.most));
}

across : (x x' w w' : ℤ) → Lower x w → Upper x' w' → Opens x x'
across x x' w w' a b =
    let m = pos w_most in
    let here = ≤ℤ_refl m in
    record {
      sine_rises = by_parts a.sin b.sin
          (≤ℤ-trans (odd_rises w m a.least a.most here) (≤ℤ-trans meet_sine (even_falls w' m b.least b.most here)));
      cosine_falls = by_parts b.cos a.cos
          (≤ℤ-trans (neg_le _ _ (odd_rises⁻ w' m b.least b.most here)) (≤ℤ-trans meet_cosine (even_falls w m a.least a.most here)));
    }

pub quarter_opens : (x x' : ℤ) → pos 0 ≼ x → x ≼ x' → x' ≼ pos quarter → Opens x x'
quarter_opens x x' h l k = go (≼-or-≺ (pos quarter) (pos 2 *ℤ x)) (≼-or-≺ (pos quarter) (pos 2 *ℤ x'))
  where
    h' : pos 0 ≼ x'
    h' = ≤ℤ-trans h l

    k' : x ≼ pos quarter
    k' = ≤ℤ-trans l k

    go : (pos quarter ≼ pos 2 *ℤ x) ⊎ (pos 2 *ℤ x ≺ pos quarter) → (pos quarter ≼ pos 2 *ℤ x') ⊎ (pos 2 *ℤ x' ≺ pos quarter) → Opens x x'
    go (inr a) (inr b) = both_lower x x' _ _ (lower x h a) (lower x' h' b) (lower_rises x x' l)
    go (inl a) (inl b) = both_upper x x' _ _ (upper x a k') (upper x' b k) (upper_falls x x' l)
    go (inr a) (inl b) = across x x' _ _ (lower x h a) (upper x' b k)
    go (inl a) (inr b) =
        let bad : pos 1 ≼ pos 0 = cert! (x ∷ x' ∷ []) 0 (gap a ⊞ gap< b ⊞ 2 · gap l) (search polys depth 60 fits 100000) tt in
        absurd bad.le
