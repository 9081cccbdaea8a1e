-- The working cosine in natural numbers: the working angle as v = w + U, and each rounded quotient as one quotient of naturals. Assumes nothing.
use mathlib.Core.Path.{◌≡◌, sym, ap, ap₂, ◌∙◌, subst}
use mathlib.Core.List.{List, [], ◌∷◌}
use Prim.Native.Nat.{ℕ, zero, suc, ◌+◌, ◌*◌, ◌-◌, ◌/◌, ◌%◌, ◌≤◌, ◌<◌}
use native.Mathlib.Omega.{arith}
use native.Mathlib.Nat.{mul-le-mul, mul-le-mul_right, div-div-eq-div-mul, div-le_of_le-mul}
use native.Mathlib.Numerals.{unary_clauses}
use lib.ListN.{length, get_or, drop, drop_of_length-le}
use lib.Seq.{drop-cons}
use lib.IntN.{ℤ, pos, neg_ℤ, ◌+ℤ◌, ◌-ℤ◌, ◌*ℤ◌}
use Rattle.integers.specs.Order.{◌≼◌}
use Rattle.integers.specs.Division.{floor, rounded}
use Rattle.integers.proofs.Pairs.{nat, same, less⁻¹, ◌+ᵢ◌, ◌-ᵢ◌, ◌*ᵢ◌}
use Rattle.integers.proofs.Auto.{polys, ring!, cert!, sqr}
use Rattle.integers.proofs.Division.{rounded_add}
use Rattle.integers.proofs.Rounding.{rounded_scale}
use Rattle.units.specs.Units.{U, quarter, angle_step}
use Rattle.integers.specs.Division.{modulo}
use Rattle.cosine.specs.Machine.Parity.{eighth, y_limit, InRange}
use Rattle.cosine.specs.Cosine.{q_of, r_of, w_of, y_of, horner, even_part, odd_part, evens, odds, cosine_by, sine_by, working_cosine, working_sine}
use Rattle.cosine.specs.Cosine.{cosine, sine}

-- a natural number rounded
pub rounded_nat : (n d : ℕ) → rounded (pos n) d ≡ pos ((n + d / 2) / d)
unfolding rounded floor
rounded_nat n d = ap pos (sym (div-div-eq-div-mul (2 * n + d) 2 d) ∙ ap (λ t. t / d) (omega arith))

minus_nat : (a b : ℕ) → b ≤ a → pos (a - b) ≡ pos a -ℤ pos b
minus_nat a b h = same (nat (a - b)) (nat a -ᵢ nat b) (omega arith)

-- ---- the quarter and the working angle

pub quarters_is : (x : ℕ) → pos ((x + quarter / 2) / quarter) ≡ q_of quarter (pos x)
unfolding q_of
quarters_is x = sym (rounded_nat x quarter)

pub quarters_value : (x q : ℕ) → pos q ≡ q_of quarter (pos x) → q ≡ (x + quarter / 2) / quarter
quarters_value x q e = pos_inj (e ∙ sym (quarters_is x))
  where
    pos_inj : {a b : ℕ} → pos a ≡ pos b → a ≡ b
    pos_inj e = cc

pub biased_angle_is : (x q : ℕ) → pos q ≡ q_of quarter (pos x) → pos ((x + (angle_step * U + angle_step / 2) - q * quarter) / angle_step)
    ≡ pos U +ℤ w_of quarter angle_step (pos x)
unfolding w_of r_of
biased_angle_is x q e =
    let v = quarters_value x q e in
    let m = x + angle_step * U - q * quarter in
    let a : (x + (angle_step * U + angle_step / 2) - q * quarter) / angle_step ≡ (m + angle_step / 2) / angle_step = omega arith in
    let b : pos m ≡ pos angle_step *ℤ pos U +ℤ (pos x -ℤ pos q *ℤ pos quarter) =
    same (nat m) (nat angle_step *ᵢ nat U +ᵢ (nat x -ᵢ nat q *ᵢ nat quarter)) (omega arith) in
    ap pos a ∙ sym (rounded_nat m angle_step) ∙ ap (λ t. rounded t angle_step) b
    ∙ rounded_add (pos U) (pos x -ℤ pos q *ℤ pos quarter) angle_step (omega arith)
    ∙ ap (λ t. pos U +ℤ rounded (pos x -ℤ t *ℤ pos quarter) angle_step) e

pub biased_angle_range : (x q : ℕ) → pos q ≡ q_of quarter (pos x) → InRange ((x + (angle_step * U + angle_step / 2) - q * quarter) / angle_step)
biased_angle_range x q e = let v = quarters_value x q e in record { low = omega arith; high = omega arith }

-- ---- the square

-- 2·U·v ≤ v² + U²
pub square_low : (v : ℕ) → 2 * v ≤ (v * v + (U * U + U / 2)) / U
square_low v =
    let h : pos (2 * U * v) ≼ pos (v * v + U * U) = cert! (pos v ∷ []) 0 (sqr (pos v -ℤ pos U)) (search polys depth 60 fits 100000) tt in
    let k = less⁻¹ (nat (2 * U * v)) (nat (v * v + U * U)) h in
    omega arith

-- v is between its two bounds, whose product is U² − eighth²
pub square_high : (v : ℕ) → InRange v → v * v + (U - eighth) * (U + eighth) ≤ 2 * U * v
square_high v r = subst (λ t. t * t + (U - eighth) * (U + eighth) ≤ 2 * U * t) back (go (v - (U - eighth)) (omega arith))
  where
    back : v - (U - eighth) + (U - eighth) ≡ v
    back = omega arith

    go : (a : ℕ) → a ≤ 2 * eighth → (a + (U - eighth)) * (a + (U - eighth)) + (U - eighth) * (U + eighth) ≤ 2 * U * (a + (U - eighth))
    go a h = omega (arith, mul-le-mul_right a h)

pub square_is : (v : ℕ) → pos ((v * v + (U * U + U / 2)) / U - 2 * v) ≡ y_of (pos v -ℤ pos U)
unfolding y_of
square_is v =
    let a : (v * v + (U * U + U / 2)) / U ≡ (v * v + U * U + U / 2) / U = omega arith in
    minus_nat ((v * v + (U * U + U / 2)) / U) (2 * v) (square_low v)
    ∙ ap (λ t. pos t -ℤ pos (2 * v)) a
    ∙ ap (λ t. t -ℤ pos (2 * v)) (sym (rounded_nat (v * v + U * U) U))
    ∙ swap (rounded (pos (v * v + U * U)) U) (pos (2 * v))
    ∙ sym (rounded_add (neg_ℤ (pos (2 * v))) (pos (v * v + U * U)) U (omega arith))
    ∙ ap (λ t. rounded t U) (expand (pos v))
  where
    swap : (x y : ℤ) → x -ℤ y ≡ neg_ℤ y +ℤ x
    swap x y = ring! (x ∷ y ∷ []) (search polys depth 60 fits 100000) tt

    expand : (v : ℤ) → pos U *ℤ neg_ℤ (pos 2 *ℤ v) +ℤ (v *ℤ v +ℤ pos (U * U)) ≡ (v -ℤ pos U) *ℤ (v -ℤ pos U)
    expand v = ring! (v ∷ []) (search polys depth 60 fits 100000) tt

-- ---- a step of the series

pub step_small : (y h d : ℕ) → y ≤ y_limit → h ≤ U → 0 < d → (y * h + U / 2 * d) / (U * d) ≤ U
step_small y h d hy hh hd = div-le_of_le-mul (U * d) (let k = mul-le-mul hy hh in omega (arith, k))

pub step_is : (y h d : ℕ) → y ≤ y_limit → h ≤ U → 0 < d
    → pos (U - (y * h + U / 2 * d) / (U * d)) ≡ pos U -ℤ rounded (pos y *ℤ pos h) (U * d)
step_is y h d hy hh hd =
    let e : U * d / 2 ≡ U / 2 * d = omega arith in
    minus_nat U ((y * h + U / 2 * d) / (U * d)) (step_small y h d hy hh hd)
    ∙ ap (λ t. pos U -ℤ t) (ap (λ t. pos ((y * h + t) / (U * d))) (sym e) ∙ sym (rounded_nat (y * h) (U * d)))

-- the first step, from h = U, is a quotient by d
pub first_small : (y d : ℕ) → y ≤ y_limit → 0 < d → (y + d / 2) / d ≤ y_limit + 1
first_small y d hy hd = div-le_of_le-mul d (omega arith)

pub first_is : (y d : ℕ) → y ≤ y_limit → 0 < d → pos (U - (y + d / 2) / d) ≡ pos U -ℤ rounded (pos y *ℤ pos U) (U * d)
first_is y d hy hd =
    minus_nat U ((y + d / 2) / d) (let k = first_small y d hy hd in omega arith)
    ∙ ap (λ t. pos U -ℤ t) (sym (rounded_nat y d) ∙ sym (rounded_scale U (pos y) d (omega arith) hd) ∙ ap (λ t. rounded t (U * d)) (swap (pos U) (pos y)))
  where
    swap : (x y : ℤ) → x *ℤ y ≡ y *ℤ x
    swap x y = ring! (x ∷ y ∷ []) (search polys depth 60 fits 100000) tt

-- ---- the odd part, from the series h at v

odd_is : (v h : ℕ) → pos h ≡ horner (y_of (pos v -ℤ pos U)) odds → pos ((v * h + U / 2) / U) -ℤ pos h ≡ odd_part (pos v -ℤ pos U)
unfolding odd_part
odd_is v h e =
    ap (λ t. t -ℤ pos h) (sym (rounded_nat (v * h) U))
    ∙ swap (rounded (pos (v * h)) U) (pos h)
    ∙ sym (rounded_add (neg_ℤ (pos h)) (pos (v * h)) U (omega arith))
    ∙ ap (λ t. rounded t U) (expand (pos v) (pos h))
    ∙ ap (λ t. rounded ((pos v -ℤ pos U) *ℤ t) U) e
  where
    swap : (x y : ℤ) → x -ℤ y ≡ neg_ℤ y +ℤ x
    swap x y = ring! (x ∷ y ∷ []) (search polys depth 60 fits 100000) tt

    expand : (v h : ℤ) → pos U *ℤ neg_ℤ h +ℤ v *ℤ h ≡ (v -ℤ pos U) *ℤ h
    expand v h = ring! (v ∷ h ∷ []) (search polys depth 60 fits 100000) tt

-- the step by the divisor before place m takes it to the series of those from m on
pub series_more : (y : ℤ) (ds : List ℕ) (m : ℕ) → 0 < m → m ≤ length ds → (h k : ℤ) → h ≡ horner y (drop m ds)
    → k ≡ pos U -ℤ rounded (y *ℤ h) (U * get_or ds (m - 1) 0) → k ≡ horner y (drop (m - 1) ds)
unfolding horner
series_more y ds zero o l h k e f = absurd (omega arith)
series_more y ds (suc n) o l h k e f =
    let less = λ (z : ℤ). pos U -ℤ rounded (y *ℤ z) (U * get_or ds n 0) in
    let g : k ≡ less h = simp unary_clauses at f in
    simp unary_clauses (g ∙ ap less e ∙ sym (ap (λ (r : List ℕ). horner y r) (drop-cons ds n 0 l)))

-- past the last divisor the series is U
pub series_last : (y : ℤ) (ds : List ℕ) (n : ℕ) → length ds ≡ n + 1 → (k : ℤ) → k ≡ pos U -ℤ rounded (y *ℤ pos U) (U * get_or ds n 0)
    → k ≡ horner y (drop n ds)
unfolding horner
series_last y ds n l k f =
    let all : length ds ≤ suc n = omega arith in
    let none : pos U ≡ horner y (drop (suc n) ds) = sym (ap (λ (r : List ℕ). horner y r) (drop_of_length-le ds all)) in
    simp unary_clauses at (series_more y ds (suc n) (omega arith) (omega arith) (pos U) k none (simp unary_clauses f))

-- ---- by the quarter: what stands for the even part is e, for the odd part o - h

pub series_at : (v y h : ℕ) (ds : List ℕ) → pos y ≡ y_of (pos v -ℤ pos U) → pos h ≡ horner (pos y) ds → pos h ≡ horner (y_of (pos v -ℤ pos U)) ds
series_at v y h ds p q = q ∙ ap (λ t. horner t ds) p

flip : (a b : ℤ) → a -ℤ b ≡ neg_ℤ (b -ℤ a)
flip a b = ring! (a ∷ b ∷ []) (search polys depth 60 fits 100000) tt

-- a number and U more, as the code has it
lift : (a b : ℕ) → b ≤ U + a → pos (U + a - b) ≡ pos U +ℤ (pos a -ℤ pos b)
lift a b h = same (nat (U + a - b)) (nat U +ᵢ (nat a -ᵢ nat b)) (omega arith)

-- the even part and the odd part turned about, U more
pub even_lifted : (v h : ℕ) → pos h ≡ horner (y_of (pos v -ℤ pos U)) evens → pos (U + h) ≡ pos U +ℤ even_part (pos v -ℤ pos U)
unfolding even_part
even_lifted v h q = ap (λ z. pos U +ℤ z) q

pub odd_lifted : (v h : ℕ) → pos h ≡ horner (y_of (pos v -ℤ pos U)) odds → (v * h + U / 2) / U ≤ U + h
    → pos (U + h - (v * h + U / 2) / U) ≡ pos U +ℤ neg_ℤ (odd_part (pos v -ℤ pos U))
odd_lifted v h q l =
    let o = (v * h + U / 2) / U in
    lift h o l ∙ ap (λ z. pos U +ℤ z) (flip (pos h) (pos o) ∙ ap neg_ℤ (odd_is v h q))

twice : (z : ℤ) → neg_ℤ (neg_ℤ z) ≡ z
twice z = ring! (z ∷ []) (search polys depth 60 fits 100000) tt

turned : (c : ℕ) (z : ℤ) → c ≤ 2 * U → pos c ≡ pos U +ℤ z → pos (2 * U - c) ≡ pos U +ℤ neg_ℤ z
turned c z l e = minus_nat (2 * U) c l ∙ ap (λ t. pos (2 * U) -ℤ t) e ∙ ring! (z ∷ []) (search polys depth 60 fits 100000) tt

-- the cosine at the quarter k, U more: at 0 and 1 as lifted, two quarters on with the other sign
pub biased_as : (k c : ℕ) (e o : ℤ) → k < 2 → (k % 2 ≡ 0 → pos c ≡ pos U +ℤ e) → ((k % 2 ≡ 0 → ⊥) → pos c ≡ pos U +ℤ neg_ℤ o)
    → pos c ≡ pos U +ℤ cosine_by neg_ℤ k e o
unfolding cosine_by
biased_as zero c e o h f g = f (omega arith)
biased_as (suc zero) c e o h f g = g (λ i. omega (arith, i))
biased_as (suc (suc k)) c e o h f g = absurd (omega arith)

pub biased_turned : (k c : ℕ) (e o : ℤ) → k < 4 → 2 ≤ k → c ≤ 2 * U → (k % 2 ≡ 0 → pos c ≡ pos U +ℤ e) → ((k % 2 ≡ 0 → ⊥) → pos c ≡ pos U +ℤ neg_ℤ o)
    → pos (2 * U - c) ≡ pos U +ℤ cosine_by neg_ℤ k e o
unfolding cosine_by
biased_turned zero c e o h i l f g = absurd (omega arith)
biased_turned (suc zero) c e o h i l f g = absurd (omega arith)
biased_turned (suc (suc zero)) c e o h i l f g = turned c e l (f (omega arith))
biased_turned (suc (suc (suc zero))) c e o h i l f g = turned c (neg_ℤ o) l (g (λ i. omega (arith, i))) ∙ ap (λ z. pos U +ℤ z) (twice o)
biased_turned (suc (suc (suc (suc k)))) c e o h i l f g = absurd (omega arith)

-- the odd part is small
pub odd_small : (v h : ℕ) → InRange v → v * h ≤ (U + eighth) * h
odd_small v h r = mul-le-mul_right h r.high

-- ---- the whole, from q and v

pub unbiased : (v : ℕ) (w : ℤ) → pos v ≡ pos U +ℤ w → pos v -ℤ pos U ≡ w
unbiased v w e = ap (λ t. t -ℤ pos U) e ∙ ring! (w ∷ []) (search polys depth 60 fits 100000) tt

pub quarter_back : (x q : ℕ) → pos q ≡ q_of quarter (pos x) → q % 4 ≡ modulo (q_of quarter (pos x)) 4
unfolding modulo
quarter_back x q e = ap (λ t. modulo t 4) e

pub cosine_of : (x k v : ℕ) → k ≡ modulo (q_of quarter (pos x)) 4 → pos v ≡ pos U +ℤ w_of quarter angle_step (pos x)
    → cosine_by neg_ℤ k (even_part (pos v -ℤ pos U)) (odd_part (pos v -ℤ pos U)) ≡ cosine (pos x)
unfolding cosine working_cosine
cosine_of x k v e f = ap₂ (λ k w. cosine_by neg_ℤ k (even_part w) (odd_part w)) e (unbiased v (w_of quarter angle_step (pos x)) f)

pub sine_of : (x k v : ℕ) → k ≡ modulo (q_of quarter (pos x)) 4 → pos v ≡ pos U +ℤ w_of quarter angle_step (pos x)
    → sine_by neg_ℤ k (even_part (pos v -ℤ pos U)) (odd_part (pos v -ℤ pos U)) ≡ sine (pos x)
unfolding sine working_sine
sine_of x k v e f = ap₂ (λ k w. sine_by neg_ℤ k (even_part w) (odd_part w)) e (unbiased v (w_of quarter angle_step (pos x)) f)

pub cosine_from : (x q v : ℕ) → pos q ≡ q_of quarter (pos x) → pos v ≡ pos U +ℤ w_of quarter angle_step (pos x)
    → cosine_by neg_ℤ (q % 4) (even_part (pos v -ℤ pos U)) (odd_part (pos v -ℤ pos U)) ≡ cosine (pos x)
cosine_from x q v e f = cosine_of x (q % 4) v (quarter_back x q e) f
