-- The exact test in fractions is that of whole vectors, when both vectors are brought to one lower number W. Assumes nothing.
use mathlib.Core.Path.{refl}
use Prim.Native.Nat.{ℕ}
use lib.IntN.{ℤ, pos, ◌+ℤ◌, ◌*ℤ◌}
use Rattle.integers.specs.Order.{◌≺◌}
use Rattle.integers.specs.Fractions.{Fraction, ◌*ᶠ◌, ◌+ᶠ◌}
use Rattle.integers.proofs.Order.{product_pos}
use Rattle.integers.proofs.Fractions.{Over, over-*, over-+, over_scl, up_pos, n_pos, le_over, over_le}
use Rattle.rectangular.specs.declared.Vector.{Vector}
use Rattle.separation.specs.Exact.{Vectorᶠ, dotᶠ, cosine_of_arcminutes, ExactTest}
use Rattle.separation.proofs.Form.{dot}
use Rattle.separation.proofs.Transfer.{Passes}

-- Each component of the fractions a is that of n over W.
pub record Over³ (W : ℤ) (a : Vectorᶠ) (n : Vector) : Type 0 where
  pub x : Over W a.x n.x
  pub y : Over W a.y n.y
  pub z : Over W a.z n.z

over_dot : (W : ℤ) (a b : Vectorᶠ) (m n : Vector) → Over³ W a m → Over³ W b n → Over (W *ℤ W) (dotᶠ a b) (dot m n)
unfolding dot dotᶠ
over_dot W a b m n h k =
    over-+ (W *ℤ W) (m.x *ℤ n.x +ℤ m.y *ℤ n.y) (m.z *ℤ n.z) (a.x *ᶠ b.x +ᶠ a.y *ᶠ b.y) (a.z *ᶠ b.z)
    (over-+ (W *ℤ W) (m.x *ℤ n.x) (m.y *ℤ n.y) (a.x *ᶠ b.x) (a.y *ᶠ b.y) (over-* W W m.x n.x a.x b.x h.x k.x)
    (over-* W W m.y n.y a.y b.y h.y k.y))
    (over-* W W m.z n.z a.z b.z h.z k.z)

module _ (k : ℕ) (low₀ : pos 0 ≺ (cosine_of_arcminutes k).lower) (W : ℤ) (hW : pos 0 ≺ W) (s g : Vectorᶠ) (m n : Vector) (hs : Over³ W s m)
    (hg : Over³ W g n) where
  abbrev c : Fraction
  c = cosine_of_arcminutes k

  self : Over c.lower c c.upper
  self = record { low_pos = low₀; same = refl }

  abbrev Z : ℤ
  Z = c.lower *ℤ c.lower *ℤ (W *ℤ W *ℤ (W *ℤ W))

  Z_pos : pos 0 ≺ Z
  Z_pos =
      product_pos (c.lower *ℤ c.lower) (W *ℤ W *ℤ (W *ℤ W)) (product_pos c.lower c.lower low₀ low₀)
      (product_pos (W *ℤ W) (W *ℤ W) (product_pos W W hW hW) (product_pos W W hW hW))

  left : Over Z (c *ᶠ c *ᶠ (dotᶠ s s *ᶠ dotᶠ g g)) (c.upper *ℤ c.upper *ℤ (dot m m *ℤ dot n n))
  left =
      over-* (c.lower *ℤ c.lower) (W *ℤ W *ℤ (W *ℤ W)) (c.upper *ℤ c.upper) (dot m m *ℤ dot n n) (c *ᶠ c) (dotᶠ s s *ᶠ dotᶠ g g)
      (over-* c.lower c.lower c.upper c.upper c c self self)
      (over-* (W *ℤ W) (W *ℤ W) (dot m m) (dot n n) (dotᶠ s s) (dotᶠ g g) (over_dot W s s m m hs hs) (over_dot W g g n n hg hg))

  right : Over Z (dotᶠ s g *ᶠ dotᶠ s g) (c.lower *ℤ c.lower *ℤ (dot m n *ℤ dot m n))
  right =
      over_scl (c.lower *ℤ c.lower) (W *ℤ W *ℤ (W *ℤ W)) (dot m n *ℤ dot m n) (dotᶠ s g *ᶠ dotᶠ s g)
      (over-* (W *ℤ W) (W *ℤ W) (dot m n) (dot m n) (dotᶠ s g) (dotᶠ s g) (over_dot W s g m n hs hg) (over_dot W s g m n hs hg))

  pub to_whole : ExactTest k s g → Passes c.upper c.lower (dot m n) (dot m m) (dot n n)
  to_whole t = record {
    ahead = n_pos (W *ℤ W) (dot m n) (dotᶠ s g) (product_pos W W hW hW) (over_dot W s g m n hs hg) t.ahead;
    close = over_le Z _ _ (c *ᶠ c *ᶠ (dotᶠ s s *ᶠ dotᶠ g g)) (dotᶠ s g *ᶠ dotᶠ s g) Z_pos left right t.close;
  }

  pub of_whole : Passes c.upper c.lower (dot m n) (dot m m) (dot n n) → ExactTest k s g
  of_whole t = record {
    ahead = up_pos (W *ℤ W) (dot m n) (dotᶠ s g) (product_pos W W hW hW) (over_dot W s g m n hs hg) t.ahead;
    close = le_over Z _ _ (c *ᶠ c *ᶠ (dotᶠ s s *ᶠ dotᶠ g g)) (dotᶠ s g *ᶠ dotᶠ s g) Z_pos left right t.close;
  }
