-- The groups of a number, one at a time, and the loop that writes them. Assumes nothing.
use mathlib.Core.Path.{◌≡◌, refl, ap, ◌∙◌}
use mathlib.Core.Bool.{Bool, true, false, cond}
use mathlib.Core.List.{List, [], ◌∷◌}
use lib.Dec.{ltb}
use Prim.Native.Nat.{ℕ, zero, suc, ◌+◌, ◌/◌, ◌%◌, ◌^◌, ◌≤◌, ◌<◌}
use native.Mathlib.Nat.{pow-succ'}
use native.Mathlib.Numerals.{add-one}
use native.Mathlib.Omega.{arith}
use borrow.Author.Tests.{lt-ltb, le-ltb, lt-leb, le-leb}
use lib.ListN.{length, set, length-set}
use lib.Seq.{sets}
use Rattle.packed_numbers.specs.Numbers.{group, groups, encode}
use Rattle.packed_numbers.specs.Machine.Answers.{room_for, put_answer, put_out}
use Rattle.std.proofs.Common.{Ok, Err}
use Rattle.packed_numbers.specs.declared.NoRoom.{NoRoom}

last_groups : (f x : ℕ) → x < group → groups (suc f) x ≡ x ∷ []
unfolding groups
last_groups f x l = rw (lt-ltb x group l)

-- The loops' invariant: what is left is the groups of x, for some number of groups that is enough.
pub record Left (start : List ℕ) (at v : ℕ) (out : List ℕ) (i x : ℕ) : Type 0 where
  pub fuel : ℕ
  pub enough : x < group ^ suc fuel
  pub count : i + length (groups (suc fuel) x) ≡ at + length (encode v)
  pub written : sets out i (groups (suc fuel) x) ≡ sets start at (encode v)
  pub same : length out ≡ length start

pub left_none : (start : List ℕ) (at v : ℕ) → v < 2 ^ 64 → Left start at v start at v
unfolding encode
left_none start at v h = record { fuel = 9; enough = omega arith; count = refl; written = refl; same = refl }

module _ (start : List ℕ) (at v : ℕ) (out : List ℕ) (i x : ℕ) where
  more : (f : ℕ) → x < group ^ suc f → i + length (groups (suc f) x) ≡ at + length (encode v)
      → sets out i (groups (suc f) x) ≡ sets start at (encode v) → length out ≡ length start → group ≤ x
      → Left start at v (set out i (x % group + group)) (i + 1) (x / group)
  unfolding groups
  more zero e c w s h = absurd (omega arith)
  more (suc f) e c w s h =
      let c' : i + suc (length (groups (suc f) (x / group))) ≡ at + length (encode v) = rw (le-ltb x group h) at c in
      record {
        fuel = f;
        enough = omega (arith, pow-succ' group (suc f));
        count = omega (arith, c');
        written = rw add-one (rw (le-ltb x group h) at w);
        same = length-set out i (x % group + group) ∙ s;
      }

  pub left_more : Left start at v out i x → group ≤ x → Left start at v (set out i (x % group + group)) (i + 1) (x / group)
  left_more l h = more l.fuel l.enough l.count l.written l.same h

  -- There is room for what is left.
  some_left : (f : ℕ) → 0 < length (groups (suc f) x)
  unfolding groups
  some_left f = either (ltb x group)
    where
      either : (t : Bool) → 0 < length (cond t (x ∷ []) ((x % group + group) ∷ groups f (x / group)))
      either true = omega arith
      either false = omega arith

  pub left_room : Left start at v out i x → i < at + length (encode v)
  left_room l = omega (arith, l.count, some_left l.fuel)

  pub left_last : Left start at v out i x → x < group → (i + 1 ≡ at + length (encode v)) × (set out i x ≡ sets start at (encode v))
  left_last l h =
      let g = last_groups l.fuel x h in
      (rw g at l.count, rw g at l.written)

-- A number has few groups, and one at least.
either_le : (t : Bool) (a b : List ℕ) (n : ℕ) → length a ≤ n → length b ≤ n → length (cond t a b) ≤ n
either_le true a b n p q = p
either_le false a b n p q = q

groups_short : (f x : ℕ) → length (groups f x) ≤ f
unfolding groups
groups_short zero x = omega arith
groups_short (suc f) x = let h = groups_short f (x / group) in either_le (ltb x group) _ _ (suc f) (omega arith) (omega arith)

pub encode_short : (v : ℕ) → length (encode v) ≤ 10
unfolding encode
encode_short v = groups_short 10 v

pub no_room : (v at n : ℕ) (e : NoRoom) (out : List ℕ) → n ≡ length (encode v) → (length out < at + n) × (e.needed ≡ n)
    → (Err e ≡ put_answer v at out) × (out ≡ put_out v at out)
unfolding put_answer put_out room_for
no_room v at n e out l h =
    let f = lt-leb (at + length (encode v)) (length out) (rw l at h.0) in
    let same : e.needed ≡ length (encode v) = h.1 ∙ l in
    (rw f (ap (λ (k : ℕ). Err (record { needed = k })) same), rw f)

pub with_room : (v at r : ℕ) (out after : List ℕ) → at + length (encode v) ≤ length out → r ≡ at + length (encode v)
    → after ≡ sets out at (encode v) → (Ok r ≡ put_answer v at out) × (after ≡ put_out v at out)
unfolding put_answer put_out room_for
with_room v at r out after h e w = let f = le-leb (at + length (encode v)) (length out) h in (rw (f, e), rw (f, w))
