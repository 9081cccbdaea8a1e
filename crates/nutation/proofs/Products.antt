-- A row's argument as the code works it: its products added one at a time. Assumes nothing.
use mathlib.Core.Path.{◌≡◌, sym, ap, ◌∙◌, subst}
use Prim.Native.Nat.{ℕ, ◌+◌, ◌*◌, ◌^◌, ◌≤◌, ◌<◌}
use native.Mathlib.Omega.{arith}
use native.Mathlib.Nat.{mul-le-mul}
use lib.Dec.{lit<}
use lib.IntN.{ℤ, nat_abs, ◌+ℤ◌, ◌*ℤ◌}
use Rattle.integers.proofs.Order.{nat_abs-*, nat_abs-+, fits}
use Rattle.integers.proofs.Division.{modulo_lt}
use mir.Syntax.{w64}
use mir.Val.{SFits}
use Rattle.arith.proofs.Cells.{Cell, held_le}
use Rattle.arith.proofs.Signs.{back}
use Rattle.nutation_table.specs.declared.Row.{Row}
use Rattle.nutation_table.specs.Table.{times_d, times_m, times_m1, times_f, times_node}
use Rattle.nutation_table.specs.Machine.Small.{multiplier_limit, Small}
use Rattle.nutation.specs.declared.Arguments.{Arguments}
use Rattle.nutation.specs.Nutation.{argument_turn}
use Rattle.nutation.specs.Machine.Reduced.{less_turns, At, combined}
use Rattle.nutation.proofs.Terms.{same_small, kept, sum_fits}

-- ---- sizes
less_small : (a : ℤ) → nat_abs (less_turns a) ≤ 2 ^ 47
unfolding less_turns
less_small a = let h = modulo_lt a argument_turn (lit< tt) in omega arith

at_small : (t : ℤ) (a : Arguments) → At t a → (nat_abs a.elongation ≤ 2 ^ 47) × (nat_abs a.sun ≤ 2 ^ 47) × (nat_abs a.moon ≤ 2 ^ 47)
    × (nat_abs a.latitude ≤ 2 ^ 47) × (nat_abs a.node ≤ 2 ^ 47)
at_small t a h = (
  same_small _ _ _ h.elongation_at (less_small _),
  same_small _ _ _ h.sun_at (less_small _),
  same_small _ _ _ h.moon_at (less_small _),
  same_small _ _ _ h.latitude_at (less_small _),
  same_small _ _ _ h.node_at (less_small _),
)

product_small : (m a : ℤ) → nat_abs m ≤ multiplier_limit → nat_abs a ≤ 2 ^ 47 → nat_abs (m *ℤ a) ≤ 2 ^ 49
product_small m a h k = subst (λ (n : ℕ). n ≤ 2 ^ 49) (sym (nat_abs-* m a)) (mul-le-mul h k)

-- ---- a product as the code has it, and the sum s of k products with the next one p
module _ (m a : ℤ) (hm : nat_abs m ≤ multiplier_limit) (ha : nat_abs a ≤ 2 ^ 47) where
  product_in : nat_abs (Cell m *ℤ Cell a) ≤ 2 ^ 49
  product_in = product_small (Cell m) (Cell a) (held_le m multiplier_limit (lit< tt) hm) (held_le a (2 ^ 47) (lit< tt) ha)

  product_is : Cell m *ℤ Cell a ≡ m *ℤ a
  product_is = rw (kept m multiplier_limit (lit< tt) hm, kept a (2 ^ 47) (lit< tt) ha)

pub small_fits : (p : ℤ) → nat_abs p ≤ 2 ^ 49 → SFits w64 p
small_fits p h = fits p (omega arith)

pub record Next (k : ℕ) (s p : ℤ) : Type 0 where
  pub is : Cell s +ℤ Cell p ≡ s +ℤ p
  pub room : SFits w64 (Cell s +ℤ Cell p)
  pub size : nat_abs (Cell s +ℤ Cell p) ≤ (k + 1) * 2 ^ 49

next : (k : ℕ) (s p : ℤ) → k < 5 → nat_abs s ≤ k * 2 ^ 49 → nat_abs p ≤ 2 ^ 49 → Next k s p
next k s p few h g =
    let e : Cell s +ℤ Cell p ≡ s +ℤ p = rw (kept s (2 ^ 60) (lit< tt) (omega arith), kept p (2 ^ 60) (lit< tt) (omega arith)) in
    record { is = e; room = rw e (sum_fits s p (omega arith) (omega arith)); size = rw e (omega (arith, nat_abs-+ s p)) }

-- the five of a row
module _ (t : ℤ) (r : Row) (a : Arguments) (s : Small r) (h : At t a) where
  abbrev By_d : ℤ
  By_d = Cell (times_d r) *ℤ Cell a.elongation

  abbrev By_m : ℤ
  By_m = Cell (times_m r) *ℤ Cell a.sun

  abbrev By_m1 : ℤ
  By_m1 = Cell (times_m1 r) *ℤ Cell a.moon

  abbrev By_f : ℤ
  By_f = Cell (times_f r) *ℤ Cell a.latitude

  abbrev By_node : ℤ
  By_node = Cell (times_node r) *ℤ Cell a.node

  all_in : (nat_abs By_d ≤ 2 ^ 49) × (nat_abs By_m ≤ 2 ^ 49) × (nat_abs By_m1 ≤ 2 ^ 49) × (nat_abs By_f ≤ 2 ^ 49) × (nat_abs By_node ≤ 2 ^ 49)
  all_in =
      let b = at_small t a h in (
        product_in (times_d r) a.elongation s.d_small b.0,
        product_in (times_m r) a.sun s.m_small b.1,
        product_in (times_m1 r) a.moon s.m1_small b.2,
        product_in (times_f r) a.latitude s.f_small b.3,
        product_in (times_node r) a.node s.node_small b.4,
      )

  pub products_fit : SFits w64 By_d × SFits w64 By_m × SFits w64 By_m1 × SFits w64 By_f × SFits w64 By_node
  products_fit =
      let i = all_in in
      (small_fits By_d i.0, small_fits By_m i.1, small_fits By_m1 i.2, small_fits By_f i.3, small_fits By_node i.4)

  -- the sums so far
  abbrev Two : ℤ
  Two = Cell By_d +ℤ Cell By_m

  abbrev Three : ℤ
  Three = Cell Two +ℤ Cell By_m1

  abbrev Four : ℤ
  Four = Cell Three +ℤ Cell By_f

  abbrev Five : ℤ
  Five = Cell Four +ℤ Cell By_node

  two : Next 1 By_d By_m
  two = let i = all_in in next 1 By_d By_m (lit< tt) (omega arith) i.1

  three : Next 2 Two By_m1
  three = next 2 Two By_m1 (lit< tt) two.size all_in.2

  four : Next 3 Three By_f
  four = next 3 Three By_f (lit< tt) three.size all_in.3

  five : Next 4 Four By_node
  five = next 4 Four By_node (lit< tt) four.size all_in.4

  pub sums_fit : SFits w64 Two × SFits w64 Three × SFits w64 Four × SFits w64 Five
  sums_fit = (two.room, three.room, four.room, five.room)

  pub sum_is : Cell Five ≡ combined r a
  unfolding combined
  sum_is =
      let b = at_small t a h in
      let e : Cell Five ≡ By_d +ℤ By_m +ℤ By_m1 +ℤ By_f +ℤ By_node =
      back Five five.room ∙ five.is
      ∙ ap (λ z. z +ℤ By_node) (four.is ∙ ap (λ z. z +ℤ By_f) (three.is ∙ ap (λ z. z +ℤ By_m1) two.is)) in
      e ∙ rw (
        product_is (times_d r) a.elongation s.d_small b.0,
        product_is (times_m r) a.sun s.m_small b.1,
        product_is (times_m1 r) a.moon s.m1_small b.2,
        product_is (times_f r) a.latitude s.f_small b.3,
        product_is (times_node r) a.node s.node_small b.4,
      )
