-- What holds of the blocks of an accepted series, as the sums use it: each block taken from the list is within its limits. Assumes nothing.
use mathlib.Core.Path.{◌≡◌}
use mathlib.Core.List.{List, [], ◌∷◌}
use Prim.Native.Nat.{ℕ, zero, suc, ◌≤◌, ◌<◌}
use native.Mathlib.Omega.{arith}
use lib.ListN.{length, get_or, take, drop}
use Rattle.limits.specs.declared.Term.{Term}
use Rattle.packed.specs.Series.{parse, accepted}
use Rattle.limits.specs.Allowed.{total_of, BlockFits, Allowed}
use Rattle.packed_promises.proofs.Theorems.{accepted_allowed}

-- A fact of every block of a list.
pub record Each (P : List Term → Type 0) (bs : List (List Term)) : Type 0 where
  pub at : (k : ℕ) → k < length bs → P (get_or bs k [])

module _ {P : List Term → Type 0} where
  pub in_head : (b : List Term) (bs : List (List Term)) → Each P (b ∷ bs) → P b
  in_head b bs h = h.at 0 (omega arith)

  pub in_tail : (b : List Term) (bs : List (List Term)) → Each P (b ∷ bs) → Each P bs
  in_tail b bs h = record { at = λ (k : ℕ) (l : k < length bs). h.at (suc k) (omega arith) }

  pub in_none : Each P []
  in_none = record { at = λ (k : ℕ) (l : k < 0). absurd (omega arith) }

  pub in_more : (b : List Term) (bs : List (List Term)) → P b → Each P bs → Each P (b ∷ bs)
  in_more b bs h r = record { at = go }
    where
      go : (k : ℕ) → k < length (b ∷ bs) → P (get_or (b ∷ bs) k [])
      go zero l = h
      go (suc k) l = r.at k (omega arith)

  pub in_take : (n : ℕ) (bs : List (List Term)) → Each P bs → Each P (take n bs)
  in_take zero bs h = in_none
  in_take (suc n) [] h = in_none
  in_take (suc n) (b ∷ bs) h = in_more b (take n bs) (in_head b bs h) (in_take n bs (in_tail b bs h))

  pub in_drop : (n : ℕ) (bs : List (List Term)) → Each P bs → Each P (drop n bs)
  in_drop zero bs h = h
  in_drop (suc n) [] h = h
  in_drop (suc n) (b ∷ bs) h = in_drop n bs (in_tail b bs h)

-- Every block is within the limits of a block; the total |a| of every block is at most so much.
abbrev pub BlocksIn : List (List Term) → Type 0
BlocksIn bs = Each BlockFits bs

abbrev pub TotalsIn : ℕ → List (List Term) → Type 0
TotalsIn most bs = Each (λ (b : List Term). total_of b ≤ most) bs

pub allowed_inside : (bs : List (List Term)) → Allowed bs → BlocksIn bs
allowed_inside bs a = record { at = λ (k : ℕ) (l : k < length bs). a.fits k (rw a.eighteen at l) }

pub accepted_is : (bytes : List ℕ) (bs : List (List Term)) → parse bytes ≡ accepted bs → Allowed bs
accepted_is bytes bs e = accepted_allowed bytes bs e
