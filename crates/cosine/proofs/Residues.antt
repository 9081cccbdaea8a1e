-- A whole number as tick q + r, but for whole turns in the quotient: sums, multiples, carries, and the rounded quotient by a tick. Assumes nothing.
use mathlib.Core.Path.{◌≡◌, refl, sym, ap, ap₂, ◌∙◌, subst₂}
use mathlib.Core.List.{[], ◌∷◌}
use Prim.Native.Nat.{ℕ, ◌+◌, ◌*◌, ◌-◌, ◌/◌, ◌%◌, ◌≤◌, ◌<◌}
use native.Mathlib.Omega.{arith}
use lib.IntN.{ℤ, pos, neg_ℤ, ◌+ℤ◌, ◌-ℤ◌, ◌*ℤ◌}
use Rattle.integers.specs.Division.{rounded, modulo}
use Rattle.integers.proofs.Pairs.{nat, same, ◌-ᵢ◌}
use Rattle.integers.proofs.Auto.{polys, ring!, cert!, cert<!, gap, gap≡, ◌⊞◌, ◌·◌}
use Rattle.integers.proofs.Division.{floor_is, modulo_shift}
use Rattle.integers.proofs.Rounding.{rounded_scale}
use Rattle.integers.proofs.Order.{≼-nat}
use Rattle.units.specs.Units.{millennium, turn as P, angle_per_part}
use Rattle.cosine.specs.Terms.{term_angle}
use Rattle.cosine.specs.Machine.Prepared.{tick as D, half_tick, cut, cuts, Residue, Times}
use Rattle.cosine.specs.declared.term.ByTick.{ByTick}

pub residue-+ : {n m : ℤ} {q r s t : ℕ} → Residue n q r → Residue m s t → Residue (n +ℤ m) (q + s) (r + t)
residue-+ {n} {m} {q} {r} {s} {t} a b = record {
  turns = a.turns +ℤ b.turns;
  is = ap₂ ◌+ℤ◌ a.is b.is ∙ law (pos D) (pos P) a.turns b.turns (pos q) (pos r) (pos s) (pos t);
}
  where
    law : (D P j k q r s t : ℤ) → D *ℤ (P *ℤ j +ℤ q) +ℤ r +ℤ (D *ℤ (P *ℤ k +ℤ s) +ℤ t) ≡ D *ℤ (P *ℤ (j +ℤ k) +ℤ (q +ℤ s)) +ℤ (r +ℤ t)
    law D P j k q r s t = ring! (D ∷ P ∷ j ∷ k ∷ q ∷ r ∷ s ∷ t ∷ []) (search polys depth 60 fits 100000) tt

pub residue-* : {n : ℤ} {q r : ℕ} (g : ℕ) → Residue n q r → Residue (pos g *ℤ n) (g * q) (g * r)
residue-* {n} {q} {r} g a = record { turns = pos g *ℤ a.turns; is = ap (λ z. pos g *ℤ z) a.is ∙ law (pos D) (pos P) (pos g) a.turns (pos q) (pos r) }
  where
    law : (D P g k q r : ℤ) → g *ℤ (D *ℤ (P *ℤ k +ℤ q) +ℤ r) ≡ D *ℤ (P *ℤ (g *ℤ k) +ℤ g *ℤ q) +ℤ g *ℤ r
    law D P g k q r = ring! (D ∷ P ∷ g ∷ k ∷ q ∷ r ∷ []) (search polys depth 60 fits 100000) tt

-- whole ticks of r go to the quotient, whole turns out of it
pub residue_carry : {n : ℤ} {q r : ℕ} → Residue n q r → Residue n ((q + r / D) % P) (r % D)
residue_carry {n} {q} {r} a = record {
  turns = a.turns +ℤ pos ((q + r / D) / P);
  is = a.is ∙ ap₂ (λ s t. pos D *ℤ (pos P *ℤ a.turns +ℤ s) +ℤ t) whole rest
      ∙ law (pos D) (pos P) a.turns (pos ((q + r / D) / P)) (pos ((q + r / D) % P)) (pos (r / D)) (pos (r % D));
}
  where
    rest : pos r ≡ pos D *ℤ pos (r / D) +ℤ pos (r % D)
    rest = ap pos (omega arith)

    whole : pos q ≡ pos P *ℤ pos ((q + r / D) / P) +ℤ pos ((q + r / D) % P) -ℤ pos (r / D)
    whole = back (pos q) (pos (r / D)) (pos P *ℤ pos ((q + r / D) / P) +ℤ pos ((q + r / D) % P)) (ap pos (omega arith))
      where
        back : (x y z : ℤ) → x +ℤ y ≡ z → x ≡ z -ℤ y
        back x y z e = ring! (x ∷ y ∷ []) {y = x +ℤ y -ℤ y} (search polys depth 60 fits 100000) tt ∙ ap (λ t. t -ℤ y) e

    law : (D P k j m e s : ℤ) → D *ℤ (P *ℤ k +ℤ (P *ℤ j +ℤ m -ℤ e)) +ℤ (D *ℤ e +ℤ s) ≡ D *ℤ (P *ℤ (k +ℤ j) +ℤ m) +ℤ s
    law D P k j m e s = ring! (D ∷ P ∷ k ∷ j ∷ m ∷ e ∷ s ∷ []) (search polys depth 60 fits 100000) tt

-- the opposite, and half of D more
pub residue_rest : {n : ℤ} {q r : ℕ} → q < P → r < D → Residue n q r → Residue (pos half_tick -ℤ n) ((P - 1) - q) ((D + half_tick) - r)
residue_rest {n} {q} {r} hq hr a = record {
  turns = neg_ℤ a.turns -ℤ pos 1;
  is = ap (λ z. pos half_tick -ℤ z) a.is ∙ law a.turns (pos q) (pos r)
      ∙ ap₂ (λ s t. pos D *ℤ (pos P *ℤ (neg_ℤ a.turns -ℤ pos 1) +ℤ s) +ℤ t) (minus (P - 1) q (omega arith)) (minus (D + half_tick) r (omega arith));
}
  where
    minus : (x y : ℕ) → y ≤ x → pos x -ℤ pos y ≡ pos (x - y)
    minus x y h = same (nat x -ᵢ nat y) (nat (x - y)) (omega arith)

    law : (k q r : ℤ) → pos half_tick -ℤ (pos D *ℤ (pos P *ℤ k +ℤ q) +ℤ r)
        ≡ pos D *ℤ (pos P *ℤ (neg_ℤ k -ℤ pos 1) +ℤ (pos (P - 1) -ℤ q)) +ℤ (pos (D + half_tick) -ℤ r)
    law k q r = ring! (k ∷ q ∷ r ∷ []) (search polys depth 60 fits 100000) tt

-- the same number, written otherwise
pub residue_as : {n m : ℤ} {q r : ℕ} → n ≡ m → Residue n q r → Residue m q r
residue_as e a = record { turns = a.turns; is = sym e ∙ a.is }

pub residue_at : {n : ℤ} {q q' r r' : ℕ} → q ≡ q' → r ≡ r' → Residue n q' r' → Residue n q r
residue_at {n} e f a = subst₂ (λ s t. Residue n s t) (sym e) (sym f) a

-- whole turns go out of the quotient
pub residue_less : {n : ℤ} {q r : ℕ} (k s : ℕ) → q ≡ P * k + s → Residue n q r → Residue n s r
residue_less {n} {q} {r} k s e a = record {
  turns = a.turns +ℤ pos k;
  is = a.is ∙ ap (λ z. pos D *ℤ (pos P *ℤ a.turns +ℤ z) +ℤ pos r) (ap pos e) ∙ law (pos D) (pos P) a.turns (pos k) (pos s) (pos r);
}
  where
    law : (D P j k s r : ℤ) → D *ℤ (P *ℤ j +ℤ (P *ℤ k +ℤ s)) +ℤ r ≡ D *ℤ (P *ℤ (j +ℤ k) +ℤ s) +ℤ r
    law D P j k s r = ring! (D ∷ P ∷ j ∷ k ∷ s ∷ r ∷ []) (search polys depth 60 fits 100000) tt

-- ---- multiples by a step

pub in_turn : (n : ℕ) → n % P < P
in_turn n = omega arith

pub in_tick : (n : ℕ) → n % D < D
in_tick n = omega arith

pub times_is : (g q r : ℕ) → Times g q r (record { q = (g * q + g * r / D) % P; r = g * r % D })
times_is g q r = record {
  is = residue_carry (residue-* g (record { turns = pos 0; is = law (pos D) (pos P) (pos q) (pos r) }));
  q_in = in_turn (g * q + g * r / D);
  r_in = in_tick (g * r);
}
  where
    law : (D P q r : ℤ) → D *ℤ q +ℤ r ≡ D *ℤ (P *ℤ pos 0 +ℤ q) +ℤ r
    law D P q r = ring! (D ∷ P ∷ q ∷ r ∷ []) (search polys depth 60 fits 100000) tt

pub residue_times : {n : ℤ} {g q r : ℕ} {z : ByTick} → Times g q r z → Residue n q r → Residue (pos g *ℤ n) z.q z.r
residue_times {n} {g} {q} {r} {z} m a = record {
  turns = pos g *ℤ a.turns +ℤ m.is.turns;
  is =
      ap (λ t. pos g *ℤ t) a.is
      ∙ law (pos D) (pos P) (pos g) a.turns (pos q) (pos r)
      ∙ ap (λ t. pos D *ℤ (pos P *ℤ (pos g *ℤ a.turns)) +ℤ t) m.is.is
      ∙ sum (pos D) (pos P) (pos g *ℤ a.turns) m.is.turns (pos z.q) (pos z.r);
}
  where
    law : (D P g k q r : ℤ) → g *ℤ (D *ℤ (P *ℤ k +ℤ q) +ℤ r) ≡ D *ℤ (P *ℤ (g *ℤ k)) +ℤ g *ℤ (D *ℤ q +ℤ r)
    law D P g k q r = ring! (D ∷ P ∷ g ∷ k ∷ q ∷ r ∷ []) (search polys depth 60 fits 100000) tt

    sum : (D P x j q r : ℤ) → D *ℤ (P *ℤ x) +ℤ (D *ℤ (P *ℤ j +ℤ q) +ℤ r) ≡ D *ℤ (P *ℤ (x +ℤ j) +ℤ q) +ℤ r
    sum D P x j q r = ring! (D ∷ P ∷ x ∷ j ∷ q ∷ r ∷ []) (search polys depth 60 fits 100000) tt

-- one step after another is a step by the product
pub times_on : {g h q r : ℕ} {y z : ByTick} → Times g q r y → Times h y.q y.r z → Times (g * h) q r z
times_on {g} {h} {q} {r} a b = record {
  is = residue_as (law (pos g) (pos h) (pos D *ℤ pos q +ℤ pos r)) (residue_times b a.is);
  q_in = b.q_in;
  r_in = b.r_in;
}
  where
    law : (g h x : ℤ) → h *ℤ (g *ℤ x) ≡ g *ℤ h *ℤ x
    law g h x = ring! (g ∷ h ∷ x ∷ []) (search polys depth 60 fits 100000) tt

-- ---- by cuts of the turn

-- cut h is cut (h mod cuts) but for whole turns, as `cut` divides the turn
pub less_cuts : (h l : ℕ) → cut * h + l ≡ P * (h / cuts) + (h % cuts * cut + l)
less_cuts h l = omega arith

-- a quotient as cut h + l
pub in_cuts : {n : ℤ} {q r : ℕ} → Residue n q r → Residue n (cut * (q / cut) + q % cut) r
in_cuts {n} {q} {r} a = residue_at (parted q) refl a
  where
    parted : (q : ℕ) → cut * (q / cut) + q % cut ≡ q
    parted q = omega arith

-- rounded n/D, from n + D/2
rounded_residue : (n : ℤ) (q r : ℕ) (a : Residue (pos half_tick +ℤ n) q r) → rounded n D ≡ pos P *ℤ a.turns +ℤ pos (q + r / D)
unfolding rounded
rounded_residue n q r a =
    let k = a.turns in
    let e = r / D in
    let l : D * e ≤ r = omega arith in
    let u : r < D * e + D = omega arith in
    let ρ = n ∷ k ∷ pos q ∷ pos r ∷ pos e ∷ [] in
    floor_is (pos 2 *ℤ n +ℤ pos D) (pos P *ℤ k +ℤ pos (q + e)) (2 * D) (omega arith)
    (cert! ρ 0 (2 · gap≡ (sym a.is) ⊞ 2 · gap (≼-nat (D * e) r l)) (search polys depth 60 fits 100000) tt)
    (cert<! ρ 0 (2 · gap≡ a.is ⊞ 2 · gap (≼-nat (r + 1) (D * e + D) (omega arith))) (search polys depth 60 fits 100000) tt)

-- the factor angle_per_part goes out of angle_per_part·c·t/T
common_factor : (c t : ℤ) → rounded (pos angle_per_part *ℤ c *ℤ t) millennium ≡ rounded (c *ℤ t) D
common_factor c t = ap (λ z. rounded z millennium) (law (pos angle_per_part) c t) ∙ rounded_scale angle_per_part (c *ℤ t) D (omega arith) (omega arith)
  where
    law : (k c t : ℤ) → k *ℤ c *ℤ t ≡ k *ℤ (c *ℤ t)
    law k c t = ring! (k ∷ c ∷ t ∷ []) (search polys depth 60 fits 100000) tt

-- so the term's angle is q + r/tick + angle_per_part·b, but for whole turns
pub angle_of : (b : ℕ) (c t : ℤ) (q r : ℕ) → Residue (pos half_tick +ℤ c *ℤ t) q r → modulo (pos (q + r / D + angle_per_part * b)) P ≡ term_angle b c t
unfolding term_angle
angle_of b c t q r a =
    sym (modulo_shift a.turns (pos (q + r / D + angle_per_part * b)) P (omega arith))
    ∙ ap (λ z. modulo z P) (law (pos P *ℤ a.turns) (pos (q + r / D)) (pos (angle_per_part * b))
    ∙ ap (λ z. pos (angle_per_part * b) +ℤ z) (sym (common_factor c t ∙ rounded_residue (c *ℤ t) q r a)))
  where
    law : (x y z : ℤ) → x +ℤ (y +ℤ z) ≡ z +ℤ (x +ℤ y)
    law x y z = ring! (x ∷ y ∷ z ∷ []) (search polys depth 60 fits 100000) tt
