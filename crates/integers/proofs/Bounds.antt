-- Two-sided bounds, |a| at most A, and how they add and multiply. Assumes nothing.
use mathlib.Core.Path.{◌≡◌, subst₂}
use mathlib.Core.List.{[], ◌∷◌}
use Prim.Native.Nat.{ℕ, ◌<◌}
use lib.IntN.{ℤ, pos, neg_ℤ, ◌+ℤ◌, ◌-ℤ◌, ◌*ℤ◌}
use Rattle.integers.specs.Order.{◌≼◌, ◌≺◌}
use Rattle.integers.proofs.Pairs.{nonneg}
use Rattle.integers.proofs.Auto.{polys, cert!, gap, gap<, ◌⊞◌, ◌⊛◌, ◌·◌}
use Rattle.integers.proofs.Order.{cert*! }
use Rattle.integers.specs.Division.{rounded}
use Rattle.integers.proofs.Division.{rounded_low, rounded_high}

-- |a| is at most A
pub record Bd (A a : ℤ) : Type 0 where
  pub low : neg_ℤ A ≼ a
  pub high : a ≼ A

pub bd_nonneg : (A a : ℤ) → Bd A a → pos 0 ≼ A
bd_nonneg A a h = cert! (A ∷ a ∷ []) 1 (gap h.low ⊞ gap h.high) (search polys depth 60 fits 100000) tt

pub bd-* : (A B a b : ℤ) → Bd A a → Bd B b → Bd (A *ℤ B) (a *ℤ b)
bd-* A B a b h k = record {
  low = cert! (A ∷ B ∷ a ∷ b ∷ []) 1 (gap h.low ⊛ gap k.low ⊞ gap h.high ⊛ gap k.high) (search polys depth 60 fits 100000) tt;
  high = cert! (A ∷ B ∷ a ∷ b ∷ []) 1 (gap h.low ⊛ gap k.high ⊞ gap h.high ⊛ gap k.low) (search polys depth 60 fits 100000) tt;
}

pub bd-+ : (A B a b : ℤ) → Bd A a → Bd B b → Bd (A +ℤ B) (a +ℤ b)
bd-+ A B a b h k = record {
  low = cert! (A ∷ B ∷ a ∷ b ∷ []) 0 (gap h.low ⊞ gap k.low) (search polys depth 60 fits 100000) tt;
  high = cert! (A ∷ B ∷ a ∷ b ∷ []) 0 (gap h.high ⊞ gap k.high) (search polys depth 60 fits 100000) tt;
}

pub bd_neg : (A a : ℤ) → Bd A a → Bd A (neg_ℤ a)
bd_neg A a h = record {
  low = cert! (A ∷ a ∷ []) 0 (gap h.high) (search polys depth 60 fits 100000) tt;
  high = cert! (A ∷ a ∷ []) 0 (gap h.low) (search polys depth 60 fits 100000) tt;
}

-- what is not negative bounds itself
pub bd_self : (a : ℤ) → pos 0 ≼ a → Bd a a
bd_self a h = record {
  low = cert! (a ∷ []) 0 (2 · h) (search polys depth 60 fits 100000) tt;
  high = cert! (a ∷ []) 0 (nonneg 0) (search polys depth 60 fits 100000) tt;
}

pub bd_le : (A B a : ℤ) → A ≼ B → Bd A a → Bd B a
bd_le A B a l h = record {
  low = cert! (A ∷ B ∷ a ∷ []) 0 (gap h.low ⊞ gap l) (search polys depth 60 fits 100000) tt;
  high = cert! (A ∷ B ∷ a ∷ []) 0 (gap h.high ⊞ gap l) (search polys depth 60 fits 100000) tt;
}

-- a positive factor of both is cancelled
pub bd_cancel : (m A a : ℤ) → pos 0 ≺ m → Bd (m *ℤ A) (m *ℤ a) → Bd A a
bd_cancel m A a hm h = record {
  low = cert*! (m ∷ A ∷ a ∷ []) m hm (gap h.low) (search polys depth 60 fits 100000) tt;
  high = cert*! (m ∷ A ∷ a ∷ []) m hm (gap h.high) (search polys depth 60 fits 100000) tt;
}

-- the bound and the number, each written otherwise
pub bd_as : (A B a b : ℤ) → A ≡ B → a ≡ b → Bd A a → Bd B b
bd_as A B a b e f h = subst₂ (λ (s t : ℤ). Bd s t) e f h

-- twice what rounding to a whole number of ds changes
pub bd_rounded : (n : ℤ) (d : ℕ) → 0 < d → Bd (pos d) (pos 2 *ℤ (pos d *ℤ rounded n d -ℤ n))
bd_rounded n d h = record {
  low = cert! (n ∷ pos d ∷ rounded n d ∷ []) 0 (gap< (rounded_high n d h)) (search polys depth 60 fits 100000) tt;
  high = cert! (n ∷ pos d ∷ rounded n d ∷ []) 0 (gap (rounded_low n d h)) (search polys depth 60 fits 100000) tt;
}
