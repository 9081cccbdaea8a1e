-- P2's ladder: a term, a block and the running sum against the exact ones, where |tau| is at most m. Assumes nothing.
use mathlib.Core.Path.{◌≡◌, refl, sym, ap, ◌∙◌, subst, subst₂}
use mathlib.Core.Bool.{Bool, true, false, cond}
use mathlib.Core.List.{List, [], ◌∷◌}
use Prim.Native.Nat.{ℕ, suc, ◌+◌, ◌*◌, ◌^◌, ◌≤◌}
use native.Mathlib.Omega.{arith}
use borrow.Author.Tests.{eqb-true}
use lib.Dec.{eqb}
use lib.IntN.{ℤ, pos, negsuc, nat_abs, ◌+ℤ◌, ◌*ℤ◌, zero-*ℤ}
use lib.ListN.{length}
use Rattle.integers.specs.Order.{◌≺◌}
use Rattle.integers.specs.Division.{floor, rounded, modulo}
use Rattle.integers.specs.Fractions.{Fraction, ◌*ᶠ◌, ◌+ᶠ◌, wholeᶠ, powerᶠ}
use Rattle.integers.proofs.Auto.{polys, ring!, cert!, gap}
use Rattle.integers.proofs.Pairs.{nonneg}
use Rattle.integers.proofs.Order.{nat_abs_low, nat_abs_high, ≼-antisym}
use Rattle.integers.proofs.Division.{rounded_add}
use Rattle.integers.proofs.Tests.{both}
use Rattle.integers.proofs.Bounds.{Bd, bd_rounded}
use Rattle.units.specs.Units.{U, millennium, t_limit, turn, cosine_distance, coarse_share}
use Rattle.cosine.specs.Cosine.{cosine}
use Rattle.reference_cosine.specs.Reference.{Within}
use Rattle.cosine.specs.Terms.{term_angle, term_cosine, term_value}
use Rattle.reference_cosine.specs.Terms.{term_reference}
use Rattle.reference_cosine.proofs.Promise.{P1, P1_constant}
use Rattle.cosine.proofs.Figures.{figures}
use Rattle.limits.specs.declared.Term.{Term}
use Rattle.limits.specs.Limits.{constant, weight}
use Rattle.limits.specs.Allowed.{TermFits, AllFit, none, more, coarseness_by, moving_total, moving_count}
use Rattle.limits.proofs.Terms.{burden, burden_more}
use Rattle.pieces.specs.Sums.{block_sum}
use Rattle.series.specs.Sums.{running_sum}
use Rattle.series.specs.Exact.{tau, exact_term, exact_block, exact_sum}
use Rattle.series.proofs.Close.{Close, close_zero, close-+, close_term, close_constant, close_step, power_lower, power_bound}
use Rattle.series.proofs.Ladder.{ladder, ladder_raised}
use Rattle.series.proofs.Accepted.{BlocksIn, in_head, in_tail}

abbrev u : ℤ
u = pos U

-- |z| ≤ n both ways
bd_nat_abs : (z : ℤ) (n : ℕ) → nat_abs z ≤ n → Bd (pos n) z
bd_nat_abs z n h = record { low = nat_abs_low z n h; high = nat_abs_high z n h }

-- ---- a term

zero_size : (c : ℤ) → nat_abs c ≡ 0 → c ≡ pos 0
zero_size (pos n) e = ap pos e
zero_size (negsuc n) e = absurd (omega arith)

constant_is : (b : ℕ) (c : ℤ) → constant b c ≡ true → (b ≡ 0) × (c ≡ pos 0)
unfolding constant
constant_is b c e =
    let h = both (eqb b 0) (eqb (nat_abs c) 0) e in
    (eqb-true b 0 h.0, zero_size c (eqb-true (nat_abs c) 0 h.1))

-- the cosine of a constant term is U
constant_cosine : (t : ℤ) → term_cosine 0 (pos 0) t ≡ u
unfolding term_cosine term_angle rounded floor modulo
constant_cosine t = ap (λ z. cosine (pos (modulo (pos 0 +ℤ rounded z millennium) turn))) (zero-*ℤ t) ∙ ap head figures
  where
    head : List ℤ → ℤ
    head [] = pos 0
    head (x ∷ xs) = x

-- so its value is a
whole_rounded : (a : ℤ) → rounded (a *ℤ u) U ≡ a
whole_rounded a =
    ap (λ z. rounded z U) (ring! (a ∷ []) {y = u *ℤ a +ℤ pos 0} (search polys depth 60 fits 100000) tt)
    ∙ rounded_add a (pos 0) U (omega arith) ∙ unfold rounded floor in ring! (a ∷ []) (search polys depth 60 fits 100000) tt

-- and its reference cosine is 1
constant_reference : (t : ℤ) → (term_reference 0 (pos 0) t).upper ≡ (term_reference 0 (pos 0) t).lower
constant_reference t =
    let z = term_reference 0 (pos 0) t in
    let h = subst (λ x. Within 0 x z) (constant_cosine t) (P1_constant t) in
    ≼-antisym z.upper z.lower
    (cert! (z.upper ∷ z.lower ∷ []) 999999999 (gap h.least) (search polys depth 60 fits 100000) tt)
    (cert! (z.upper ∷ z.lower ∷ []) 999999999 (gap h.most) (search polys depth 60 fits 100000) tt)

no_burden : (f : ℕ) → 0 ≡ f * (coarse_share * 0 + U * 0)
no_burden f = omega arith

module _ (m : ℕ) (t : ℤ) (hl : nat_abs t ≤ t_limit) (ht : nat_abs t ≤ m * millennium) (i : ℕ) where
  abbrev p : ℤ
  p = (powerᶠ (tau t) i).upper

  abbrev q : ℤ
  q = (powerᶠ (tau t) i).lower

  q_positive : pos 0 ≺ q
  q_positive = power_lower t millennium i (omega arith)

  p_bound : Bd (pos (m ^ i) *ℤ q) p
  p_bound = power_bound m t millennium i (bd_nat_abs t (m * millennium) ht)

  constant_close : (a : ℤ) → Close u (pos 0) p q (term_value a 0 (pos 0) t) (wholeᶠ a *ᶠ powerᶠ (tau t) i *ᶠ term_reference 0 (pos 0) t)
  unfolding term_value
  constant_close a =
      subst (λ x. Close u (pos 0) p q x (wholeᶠ a *ᶠ powerᶠ (tau t) i *ᶠ term_reference 0 (pos 0) t))
      (sym (ap (λ c. rounded (a *ℤ c) U) (constant_cosine t) ∙ whole_rounded a))
      (close_constant u p q a (term_reference 0 (pos 0) t) q_positive (P1_constant t).positive (constant_reference t))

  other_close : (x : Term) → TermFits x → Close u (pos (m ^ i * (coarse_share * nat_abs x.a + U))) p q (term_value x.a x.b x.c t)
      (exact_term t i x)
  unfolding term_value exact_term
  other_close x h =
      let c = term_cosine x.b x.c t in
      let z = term_reference x.b x.c t in
      let w = P1 x.b x.c t (record { b_in = h.b_below; c_in = h.c_below; t_in = hl }) in
      close_term u (pos cosine_distance) (pos (nat_abs x.a)) (pos (m ^ i)) p q x.a c (rounded (x.a *ℤ c) U) z q_positive w.positive
      (nonneg cosine_distance) p_bound (bd_nat_abs x.a (nat_abs x.a) (omega arith))
      (bd_rounded (x.a *ℤ c) U (omega arith)) (record { low = w.least; high = w.most })

  term_close : (x : Term) → TermFits x → Close u (pos (weight (m ^ i) x.a x.b x.c)) p q (term_value x.a x.b x.c t) (exact_term t i x)
  unfolding weight exact_term
  term_close x h = go (constant x.b x.c) refl
    where
      go : (k : Bool) → constant x.b x.c ≡ k → Close u (pos (cond k 0 (m ^ i * (coarse_share * nat_abs x.a + U)))) p q
          (term_value x.a x.b x.c t) (exact_term t i x)
      go true e = let h = constant_is x.b x.c e in
          subst₂ (λ (b : ℕ) (c : ℤ). Close u (pos 0) p q (term_value x.a b c t) (wholeᶠ x.a *ᶠ powerᶠ (tau t) i *ᶠ term_reference b c t))
          (sym h.0) (sym h.1) (constant_close x.a)
      go false e = other_close x h

  -- ---- a block
  block_close : (xs : List Term) → AllFit xs → Close u (pos (burden (m ^ i) xs)) p q (block_sum t xs) (exact_block t i xs)
  unfolding block_sum exact_block
  block_close [] none = unfold burden moving_total moving_count in subst (λ (n : ℕ). Close u (pos n) p q (pos 0) (wholeᶠ (pos 0)))
      (no_burden (m ^ i)) (close_zero u p q)
  block_close (x ∷ xs) (more h k) =
      rw (burden_more (m ^ i) x xs)
      (close-+ u (pos (weight (m ^ i) x.a x.b x.c)) (pos (burden (m ^ i) xs)) p q
      (term_value x.a x.b x.c t) (block_sum t xs) (exact_term t i x) (exact_block t i xs) (term_close x h) (block_close xs k))

-- ---- the running sum

-- the error counted in from power i on: the coarseness of the blocks, and twice what the roundings of V*t/T add
abbrev coarse : ℕ → ℕ → List (List Term) → ℕ
coarse m i bs = coarseness_by m coarse_share i bs

unfoldable pub roundings : ℕ → ℕ → List (List Term) → ℕ
roundings m i [] = 0
roundings m i (b ∷ bs) = m ^ i * ladder m (length bs)

abbrev pub error : ℕ → ℕ → List (List Term) → ℕ
error m i bs = coarse m i bs + U * roundings m i bs

pub running_step : (t : ℤ) (b c : List Term) (bs : List (List Term)) → running_sum t (b ∷ c ∷ bs) ≡ block_sum t b +ℤ rounded
    (running_sum t (c ∷ bs) *ℤ t) millennium
unfolding running_sum
running_step t b c bs = refl

pub running_one : (t : ℤ) (b : List Term) → running_sum t (b ∷ []) ≡ block_sum t b
unfolding running_sum
running_one t b = refl

errors_step : (m i : ℕ) (b c : List Term) (bs : List (List Term))
    → pos (burden (m ^ i) b) +ℤ pos (m ^ i) *ℤ u +ℤ pos (error m (suc i) (c ∷ bs)) ≡ pos (error m i (b ∷ c ∷ bs))
errors_step m i b c bs = ap pos (add (burden (m ^ i) b) (m ^ i) (coarse m (suc i) (c ∷ bs)) (roundings m (suc i) (c ∷ bs)) _ _
    (coarse_is i b (c ∷ bs)) roundings_is)
  where
    add : (n w k r k' r' : ℕ) → k' ≡ n + k → r' ≡ w + r → n + w * U + (k + U * r) ≡ k' + U * r'
    add n w k r k' r' e f = omega arith

    coarse_is : (i : ℕ) (b : List Term) (bs : List (List Term)) → coarse m i (b ∷ bs) ≡ burden (m ^ i) b + coarse m (suc i) bs
    coarse_is i b bs = unfold coarseness_by burden in refl

    roundings_is : roundings m i (b ∷ c ∷ bs) ≡ m ^ i + roundings m (suc i) (c ∷ bs)
    roundings_is = unfold roundings in ladder_raised m i (length bs)

errors_one : (m i : ℕ) (b : List Term) → pos (burden (m ^ i) b) +ℤ pos 0 ≡ pos (error m i (b ∷ []))
unfolding coarseness_by roundings burden ladder
errors_one m i b = ap pos (omega arith)

exact_step : (t : ℤ) (i : ℕ) (b : List Term) (bs : List (List Term)) → exact_sum t i (b ∷ bs) ≡ exact_block t i b +ᶠ exact_sum t (suc i) bs
unfolding exact_sum
exact_step t i b bs = refl

-- the value and the exact sum of blocks from power i on, with their error
abbrev SumClose : ℕ → ℤ → ℕ → List (List Term) → Type 0
SumClose m t i bs = Close u (pos (error m i bs)) (powerᶠ (tau t) i).upper (powerᶠ (tau t) i).lower (running_sum t bs) (exact_sum t i bs)

exact_none : (t : ℤ) (i : ℕ) → exact_sum t i [] ≡ wholeᶠ (pos 0)
unfolding exact_sum
exact_none t i = refl

plus_zero : (x : ℤ) → x ≡ x +ℤ pos 0
plus_zero x = ring! (x ∷ []) (search polys depth 60 fits 100000) tt

module _ (m : ℕ) (t : ℤ) (hl : nat_abs t ≤ t_limit) (ht : nat_abs t ≤ m * millennium) where
  one_close : (i : ℕ) (b : List Term) → AllFit b → SumClose m t i (b ∷ [])
  one_close i b h =
      rw (running_one t b ∙ plus_zero (block_sum t b), exact_step t i b [] ∙ ap (λ f. exact_block t i b +ᶠ f) (exact_none t (suc i)), ← errors_one m i b)
      (close-+ u (pos (burden (m ^ i) b)) (pos 0) (powerᶠ (tau t) i).upper (powerᶠ (tau t) i).lower (block_sum t b) (pos 0)
      (exact_block t i b) (wholeᶠ (pos 0)) (block_close m t hl ht i b h) (close_zero u (powerᶠ (tau t) i).upper (powerᶠ (tau t) i).lower))

  more_close : (i : ℕ) (b c : List Term) (bs : List (List Term)) → AllFit b → SumClose m t (suc i) (c ∷ bs) → SumClose m t i (b ∷ c ∷ bs)
  more_close i b c bs h k =
      let v = running_sum t (c ∷ bs) in
      rw (running_step t b c bs, exact_step t i b (c ∷ bs), ← errors_step m i b c bs)
      (close_step u (pos (burden (m ^ i) b)) (pos (error m (suc i) (c ∷ bs))) (pos (m ^ i))
      (powerᶠ (tau t) i).upper (powerᶠ (tau t) i).lower t (pos millennium)
      (block_sum t b) v (rounded (v *ℤ t) millennium) (exact_block t i b) (exact_sum t (suc i) (c ∷ bs)) (nonneg U) (q_positive m t hl ht i)
      (record { lt = tt }) (p_bound m t hl ht i) (bd_rounded (v *ℤ t) millennium (omega arith))
      (block_close m t hl ht i b h) (power_next k))
    where
      power_next : {n x : ℤ} {f : Fraction} → Close u n (powerᶠ (tau t) (suc i)).upper (powerᶠ (tau t) (suc i)).lower x f
          → Close u n (t *ℤ (powerᶠ (tau t) i).upper) (pos millennium *ℤ (powerᶠ (tau t) i).lower) x f
      power_next h = unfold powerᶠ ◌*ᶠ◌ in h

  pub sum_close : (i : ℕ) (bs : List (List Term)) → BlocksIn bs → SumClose m t i bs
  sum_close i [] h = unfold coarseness_by roundings running_sum exact_sum in close_zero u (powerᶠ (tau t) i).upper (powerᶠ (tau t) i).lower
  sum_close i (b ∷ []) h = one_close i b (in_head b [] h).terms
  sum_close i (b ∷ c ∷ bs) h = more_close i b c bs (in_head b (c ∷ bs) h).terms (sum_close (suc i) (c ∷ bs) (in_tail b (c ∷ bs) h))
