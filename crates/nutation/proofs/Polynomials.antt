-- The sizes of a polynomial's values, and a factor of multiplier and divisor. Assumes nothing.
use mathlib.Core.Path.{◌≡◌, refl, sym, ap, ◌∙◌}
use mathlib.Core.List.{List, [], ◌∷◌, reverse}
use Prim.Native.Nat.{ℕ, zero, suc, ◌+◌, ◌-◌, ◌*◌, ◌^◌, ◌≤◌, ◌<◌}
use native.Mathlib.Omega.{arith}
use native.Mathlib.Nat.{mul-le-mul_left}
use lib.IntN.{ℤ, pos, nat_abs, ◌+ℤ◌, ◌*ℤ◌}
use lib.ListN.{get_or, drop, length}
use lib.Seq.{drop-cons, drop-length}
use Rattle.std.proofs.lemmas.List.{get_or-reverse, length-reverse}
use mir.Syntax.{w64}
use mir.Val.{SFits}
use Rattle.integers.specs.Division.{rounded}
use Rattle.integers.proofs.Auto.{ring!, polys}
use Rattle.integers.proofs.Order.{nat_abs-*, nat_abs-+, fits}
use Rattle.integers.proofs.Rounding.{rounded_scale}
use Rattle.arith.proofs.Ranges.{rounded_within}
use Rattle.nutation.specs.Nutation.{polynomial}
use Rattle.nutation.specs.Machine.Reduced.{By, centuries, reach}

-- ---- one step
pub room : (v n d w : ℕ) → 0 < d → n ≤ d * centuries → centuries * v < w → v * n < d * w
room v n d w h k l = omega (arith, mul-le-mul_left v k, mul-le-mul_left d l)

pub step_bound : (k : ℕ) (c v n : ℤ) (d : ℕ) → 0 < d → nat_abs n ≤ d * k → nat_abs (c +ℤ rounded (v *ℤ n) d) ≤ nat_abs c + k * nat_abs v
step_bound k c v n d h l =
    let a = nat_abs-+ c (rounded (v *ℤ n) d) in
    let p = rounded_within (v *ℤ n) d (k * nat_abs v) h product in
    omega arith
  where
    product : nat_abs (v *ℤ n) ≤ k * nat_abs v * d
    product = omega (arith, nat_abs-* v n, mul-le-mul_left (nat_abs v) l)

pub step_fits : (c v n : ℤ) (d : ℕ) → By n d → nat_abs c + centuries * nat_abs v < 2 ^ 63 - 1 → SFits w64 (c +ℤ rounded (v *ℤ n) d)
step_fits c v n d b h = fits (c +ℤ rounded (v *ℤ n) d) (omega (arith, step_bound centuries c v n d b.positive b.ratio))

-- ---- all steps
pub polynomial_bound : (k : ℕ) (n : ℤ) (d : ℕ) → 0 < d → nat_abs n ≤ d * k → (cs : List ℤ) → nat_abs (polynomial n d cs) ≤ reach k cs
unfolding polynomial reach
polynomial_bound k n d h l [] = omega arith
polynomial_bound k n d h l (c ∷ cs) =
    omega (arith, step_bound k c (polynomial n d cs) n d h l, mul-le-mul_left k (polynomial_bound k n d h l cs))

-- by 10n/10d, as by n/d
pub polynomial_scale : (k : ℕ) → 0 < k → (n : ℤ) (d : ℕ) → 0 < d → (cs : List ℤ) → polynomial (pos k *ℤ n) (k * d) cs ≡ polynomial n d cs
unfolding polynomial
polynomial_scale k hk n d h [] = refl
polynomial_scale k hk n d h (c ∷ cs) =
    ap (λ t. c +ℤ rounded (t *ℤ (pos k *ℤ n)) (k * d)) (polynomial_scale k hk n d h cs)
    ∙ ap (λ t. c +ℤ rounded t (k * d))
    (ring! (pos k ∷ n ∷ polynomial n d cs ∷ []) {y = pos k *ℤ (polynomial n d cs *ℤ n)} (search polys depth 60 fits 100000) tt)
    ∙ ap (λ t. c +ℤ t) (rounded_scale k (polynomial n d cs *ℤ n) d hk h)

-- ---- no more is reached from some coefficients on
reach_drop : (cs : List ℤ) (i : ℕ) → reach centuries (drop i cs) ≤ reach centuries cs
unfolding reach
reach_drop cs zero = omega arith
reach_drop [] (suc i) = omega arith
reach_drop (c ∷ cs) (suc i) = omega (arith, reach_drop cs i)

-- ---- from the highest coefficient down: v is worked out of the last k of them
pub record WorkedDown (n : ℤ) (d : ℕ) (cs : List ℤ) (v : ℤ) (k : ℕ) : Type 0 where
  pub value : v ≡ polynomial n d (drop (length cs - k) cs)

pub worked_none : (n : ℤ) (d : ℕ) (cs : List ℤ) → WorkedDown n d cs (pos 0) 0
unfolding polynomial
worked_none n d cs =
    let all : length cs - 0 ≡ length cs = omega arith in record { value = ap (λ l. polynomial n d l) (sym (ap (λ (i : ℕ). drop i cs) all ∙ drop-length cs)) }

pub worked_all : (n : ℤ) (d : ℕ) (cs : List ℤ) (v : ℤ) (k : ℕ) → k ≡ length (reverse cs) → WorkedDown n d cs v k → v ≡ polynomial n d cs
worked_all n d cs v k e w =
    let none : length cs - k ≡ 0 = omega (arith, length-reverse cs) in w.value ∙ ap (λ (i : ℕ). polynomial n d (drop i cs)) none

-- the next coefficient a, as an iterator from the end has it
module _ (n : ℤ) (d : ℕ) (cs : List ℤ) (v : ℤ) (k : ℕ) (w : WorkedDown n d cs v k) (a : ℤ)
    (turn : (k < length (reverse cs)) × (a ≡ get_or (reverse cs) k a)) where
  in_range : k < length cs
  in_range = omega (arith, length-reverse cs, turn.0)

  one_more : drop (length cs - (k + 1)) cs ≡ a ∷ drop (length cs - k) cs
  one_more =
      let h = in_range in
      let at : length cs - 1 - k ≡ length cs - (k + 1) = omega arith in
      let next : suc (length cs - (k + 1)) ≡ length cs - k = omega arith in
      let here : get_or cs (length cs - (k + 1)) a ≡ a = sym (turn.1 ∙ get_or-reverse cs k a h ∙ ap (λ (i : ℕ). get_or cs i a) at) in
      drop-cons cs (length cs - (k + 1)) a (omega arith) ∙ rw (here, next)

  pub worked_more : (r : ℤ) → r ≡ a +ℤ rounded (v *ℤ n) d → WorkedDown n d cs r (k + 1)
  unfolding polynomial
  worked_more r e = record { value = e ∙ ap (λ t. a +ℤ rounded (t *ℤ n) d) w.value ∙ ap (λ l. polynomial n d l) (sym one_more) }

  -- what the next step asks for
  pub worked_asks : By n d → reach centuries cs < 2 ^ 63 - 1 → nat_abs a + centuries * nat_abs v < 2 ^ 63 - 1
  unfolding reach
  worked_asks b h =
      let l = polynomial_bound centuries n d b.positive b.ratio (drop (length cs - k) cs) in
      omega (arith, ap nat_abs w.value, reach_drop cs (length cs - (k + 1)), ap (reach centuries) one_more)
