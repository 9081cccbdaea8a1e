-- What `Prepared::at` works out, and the angle that `angle` makes of it. Assumes nothing.
use mathlib.Core.Path.{◌≡◌, refl, sym, ap, ap₂, ◌∙◌, subst}
use mathlib.Core.List.{[], ◌∷◌}
use Rattle.std.proofs.Math.Logic.{∥∥₁_elim}
use Rattle.std.proofs.Props.{props}
use Prim.Native.Nat.{ℕ, suc, ◌+◌, ◌*◌, ◌-◌, ◌/◌, ◌%◌, ◌^◌, ◌≤◌, ◌<◌}
use native.Mathlib.Omega.{arith}
use native.Mathlib.Nat.{mul-le-mul}
use lib.IntN.{ℤ, pos, neg_ℤ, nat_abs, ◌+ℤ◌, ◌-ℤ◌, ◌*ℤ◌}
use mir.Syntax.{w64}
use mir.Val.{SFits}
use Rattle.integers.specs.Order.{◌≼◌}
use Rattle.integers.specs.Division.{rounded, modulo}
use Rattle.integers.proofs.Auto.{polys, ring!, cert!, gap}
use Rattle.integers.proofs.Division.{rounded_add}
use Rattle.integers.proofs.Order.{nat_abs_low, nat_abs-+, fits}
use Rattle.units.specs.Units.{U, turn as P, tau_limit, t_limit, a_limit, angle_per_part}
use Rattle.cosine.specs.declared.term.ByCuts.{ByCuts}
use Rattle.cosine.specs.declared.term.ByTick.{ByTick}
use Rattle.cosine.specs.Machine.Prepared.{tick as D, half_tick, cut, cuts, base, c_bias, three_steps, base_step, bias_step, Residue, Times, Ready}
use Rattle.cosine.specs.Cosine.{cosine}
use Rattle.cosine.specs.Terms.{term_angle, term_cosine, term_value}
use Rattle.cosine.proofs.NaturalSteps.{rounded_nat}
use Rattle.cosine.proofs.WholeTurns.{cosine_mod}
use Rattle.cosine.proofs.Residues.{residue-+, residue-*, residue_carry, residue_rest, residue_as, residue_at, residue_less, residue_times}
use Rattle.cosine.proofs.Residues.{in_turn, in_tick, less_cuts, in_cuts, angle_of}

-- ---- x + k

pub biased_fits : (x : ℤ) (k : ℕ) → nat_abs x ≤ k → k < 2 ^ 62 → SFits w64 (x +ℤ pos k)
biased_fits x k h l = let m = nat_abs-+ x (pos k) in fits (x +ℤ pos k) (omega arith)

pub biased_low : (x : ℤ) (k : ℕ) → nat_abs x ≤ k → pos 0 ≼ x +ℤ pos k
biased_low x k h = cert! (x ∷ pos k ∷ []) 0 (gap (nat_abs_low x k h)) (search polys depth 60 fits 100000) tt

-- ---- what is prepared

-- t itself, from m = t + t_limit
place_first : (t : ℤ) (m : ℕ) → pos m ≡ t +ℤ pos t_limit → Residue t ((P - angle_per_part * tau_limit + m / D) % P) (m % D)
place_first t m e = residue_carry (record {
  turns = neg_ℤ (pos 1);
  is = law t ∙ ap (λ z. pos D *ℤ (pos P *ℤ neg_ℤ (pos 1) +ℤ pos (P - angle_per_part * tau_limit)) +ℤ z) (sym e);
})
  where
    law : (t : ℤ) → t ≡ pos D *ℤ (pos P *ℤ neg_ℤ (pos 1) +ℤ pos (P - angle_per_part * tau_limit)) +ℤ (t +ℤ pos t_limit)
    law t = ring! (t ∷ []) (search polys depth 60 fits 100000) tt

pub ready : (t : ℤ) (m : ℕ) (a b : ByTick) → pos m ≡ t +ℤ pos t_limit
    → Times (three_steps * base_step) ((P - angle_per_part * tau_limit + m / D) % P) (m % D) a → Times (three_steps * bias_step) a.q a.r b
    → (let q = (P - angle_per_part * tau_limit + m / D) % P in let e = (P - 1) - b.q in Ready t
    (record { h = q / cut; l = q % cut; r = m % D })
    (record { h = a.q / cut; l = a.q % cut; r = a.r })
    (record { h = e / cut; l = e % cut; r = (D + half_tick) - b.r }))
ready t m a b e f g =
    let p = place_first t m e in
    let s = residue_times f p in
    record {
      place_0 = in_cuts p;
      place_1 = in_cuts s;
      rest = in_cuts (residue_rest g.q_in g.r_in (residue_as (law t) (residue_times g s)));
      h0_in = few _ (in_turn (P - angle_per_part * tau_limit + m / D));
      h1_in = few _ f.q_in;
      h2_in = few _ (less_turn b.q);
      l0_in = in_cut _;
      l1_in = in_cut _;
      l2_in = in_cut _;
      r0_in = in_tick m;
      r1_in = f.r_in;
      r2_in = less_ticks b.r;
    }
  where
    law : (t : ℤ) → pos (three_steps * bias_step) *ℤ (pos (three_steps * base_step) *ℤ t) ≡ pos c_bias *ℤ t
    law t = ring! (t ∷ []) (search polys depth 60 fits 100000) tt

    few : (q : ℕ) → q < P → q / cut < cuts
    few q h = omega arith

    less_turn : (q : ℕ) → (P - 1) - q < P
    less_turn q = omega arith

    in_cut : (q : ℕ) → q % cut < cut
    in_cut q = omega arith

    less_ticks : (r : ℕ) → (D + half_tick) - r < 2 * D
    less_ticks r = omega arith

-- ---- the angle

-- the number that the digits g₀, g₁ of c + the bias stand for
digits : (c t g₀ g₁ d : ℤ) → d ≡ c +ℤ pos c_bias → d ≡ g₀ +ℤ pos base *ℤ g₁
    → g₀ *ℤ t +ℤ g₁ *ℤ (pos base *ℤ t) +ℤ (pos half_tick -ℤ pos c_bias *ℤ t) ≡ pos half_tick +ℤ c *ℤ t
digits c t g₀ g₁ d e f =
    ring! (t ∷ g₀ ∷ g₁ ∷ []) {y = pos half_tick +ℤ (g₀ +ℤ pos base *ℤ g₁ -ℤ pos c_bias) *ℤ t} (search polys depth 60 fits 100000) tt
    ∙ ap (λ z. pos half_tick +ℤ (z -ℤ pos c_bias) *ℤ t) (sym f ∙ e)
    ∙ ring! (c ∷ t ∷ []) (search polys depth 60 fits 100000) tt

-- the quotients together are cut h + l
together : (g₀ g₁ h₀ h₁ h₂ l₀ l₁ l₂ h l : ℕ) → h ≡ g₀ * h₀ + g₁ * h₁ + h₂ → l ≡ g₀ * l₀ + g₁ * l₁ + l₂
    → g₀ * (cut * h₀ + l₀) + g₁ * (cut * h₁ + l₁) + (cut * h₂ + l₂) ≡ P * (h / cuts) + (h % cuts * cut + l)
together g₀ g₁ h₀ h₁ h₂ l₀ l₁ l₂ h l e f = sum cut ∙ ap₂ (λ x y. cut * x + y) (sym e) (sym f) ∙ less_cuts h l
  where
    sum : (k : ℕ) → g₀ * (k * h₀ + l₀) + g₁ * (k * h₁ + l₁) + (k * h₂ + l₂) ≡ k * (g₀ * h₀ + g₁ * h₁ + h₂) + (g₀ * l₀ + g₁ * l₁ + l₂)
    sum k = omega arith

-- each figure in its range
pub record Ranges (p₀ p₁ p₂ : ByCuts) : Type 0 where
  pub h0_in : p₀.h < cuts
  pub h1_in : p₁.h < cuts
  pub h2_in : p₂.h < cuts
  pub l0_in : p₀.l < cut
  pub l1_in : p₁.l < cut
  pub l2_in : p₂.l < cut
  pub r0_in : p₀.r < D
  pub r1_in : p₁.r < D
  pub r2_in : p₂.r < 2 * D

pub ranges_of : {t : ℤ} {p₀ p₁ p₂ : ByCuts} → ∥ Ready t p₀ p₁ p₂ ∥₁ → Ranges p₀ p₁ p₂
ranges_of h = ∥∥₁_elim h (hlevel props)
    (λ a. record {
      h0_in = a.h0_in;
      h1_in = a.h1_in;
      h2_in = a.h2_in;
      l0_in = a.l0_in;
      l1_in = a.l1_in;
      l2_in = a.l2_in;
      r0_in = a.r0_in;
      r1_in = a.r1_in;
      r2_in = a.r2_in;
    })

pub angle_is : (t : ℤ) (p₀ p₁ p₂ : ByCuts) → ∥ Ready t p₀ p₁ p₂ ∥₁ → (b : ℕ) (c : ℤ) (d h l r : ℕ) → pos d ≡ c +ℤ pos c_bias
    → h ≡ d % base * p₀.h + d / base * p₁.h + p₂.h
    → l ≡ d % base * p₀.l + d / base * p₁.l + p₂.l
    → r ≡ d % base * p₀.r + d / base * p₁.r + p₂.r
    → modulo (pos (h % cuts * cut + l + r / D + angle_per_part * b)) P ≡ term_angle b c t
angle_is t p₀ p₁ p₂ k b c d h l r e eh el er =
    ∥∥₁_elim k (hlevel props) (λ a.
    let g₀ = d % base in
    let g₁ = d / base in
    let whole : d ≡ g₀ + base * g₁ = omega arith in
    let all = residue-+ (residue-+ (residue-* g₀ a.place_0) (residue-* g₁ a.place_1)) a.rest in
    let n = digits c t (pos g₀) (pos g₁) (pos d) e (ap pos whole) in
    let s = together g₀ g₁ p₀.h p₁.h p₂.h p₀.l p₁.l p₂.l h l eh el in
    angle_of b c t (h % cuts * cut + l) r (residue_at refl er (residue_less (h / cuts) (h % cuts * cut + l) s (residue_as n all))))

-- ---- what fits

pub product_most : (g x G X : ℕ) → g ≤ G → x < suc X → g * x ≤ G * X
product_most g x G X h k = mul-le-mul h (omega arith)

pub biased_most : (x : ℤ) (k d : ℕ) → pos d ≡ x +ℤ pos k → d ≤ nat_abs x + k
biased_most x k d e = subst (λ n. n ≤ nat_abs x + k) (sym (ap nat_abs e)) (nat_abs-+ x (pos k))

-- ---- the value

-- m is a + a_limit, and c the cosine and U more
pub times_cosine_is : (a : ℤ) (c m : ℕ) → pos m ≡ a +ℤ pos a_limit
    → pos (m / U * c + (m % U * c + U / 2) / U + a_limit) -ℤ pos (a_limit / U * c + m) ≡ rounded (a *ℤ (pos c -ℤ pos U)) U
times_cosine_is a c m e =
    let hi = m / U in
    let lo = m % U in
    let whole : m ≡ U * hi + lo = omega arith in
    let K = pos hi *ℤ pos c -ℤ pos (a_limit / U) *ℤ pos c -ℤ a in
    ap (λ t. pos (hi * c) +ℤ t +ℤ pos a_limit -ℤ (pos (a_limit / U * c) +ℤ pos m)) (sym (rounded_nat (lo * c) U))
    ∙ ap (λ t. pos (hi * c) +ℤ rounded (pos (lo * c)) U +ℤ pos a_limit -ℤ (pos (a_limit / U * c) +ℤ t)) e
    ∙ sort a (pos hi) (pos c) (rounded (pos (lo * c)) U)
    ∙ sym (rounded_add K (pos (lo * c)) U (omega arith))
    ∙ ap (λ t. rounded t U) (split a (pos c) (pos hi) (pos lo) (pos m) e (ap pos whole))
  where
    sort : (a h c z : ℤ) → h *ℤ c +ℤ z +ℤ pos a_limit -ℤ (pos (a_limit / U) *ℤ c +ℤ (a +ℤ pos a_limit)) ≡ h *ℤ c -ℤ pos (a_limit / U) *ℤ c -ℤ a +ℤ z
    sort a h c z = ring! (a ∷ h ∷ c ∷ z ∷ []) (search polys depth 60 fits 100000) tt

    split : (a c h l m : ℤ) → m ≡ a +ℤ pos a_limit → m ≡ pos U *ℤ h +ℤ l → pos U *ℤ (h *ℤ c -ℤ pos (a_limit / U) *ℤ c -ℤ a) +ℤ l *ℤ c ≡ a *ℤ (c -ℤ pos U)
    split a c h l m e f =
        ring! (a ∷ c ∷ h ∷ l ∷ []) {y = (pos U *ℤ h +ℤ l -ℤ pos a_limit) *ℤ c -ℤ a *ℤ pos U} (search polys depth 60 fits 100000) tt
        ∙ ap (λ t. (t -ℤ pos a_limit) *ℤ c -ℤ a *ℤ pos U) (sym f ∙ e)
        ∙ ring! (a ∷ c ∷ []) (search polys depth 60 fits 100000) tt

pub times_cosine_high : (m c : ℕ) → m < 2 * a_limit → c ≤ 2 * U → m / U * c ≤ 2 * (a_limit / U) * (2 * U)
times_cosine_high m c h k = let l : m / U ≤ 2 * (a_limit / U) = omega arith in mul-le-mul l k

pub times_cosine_low : (m c : ℕ) → c ≤ 2 * U → m % U * c ≤ U * (2 * U)
times_cosine_low m c k = let l : m % U ≤ U = omega arith in mul-le-mul l k

pub value_is : (a : ℤ) (b : ℕ) (c t : ℤ) (r : ℕ) → modulo (pos r) P ≡ term_angle b c t → rounded (a *ℤ cosine (pos r)) U ≡ term_value a b c t
unfolding term_value term_cosine
value_is a b c t r e = ap (λ z. rounded (a *ℤ z) U) (sym (cosine_mod (pos r)) ∙ ap (λ n. cosine (pos n)) e)
