-- What one turn of the loops over a window does. Assumes nothing.
use mathlib.Core.Path.{◌≡◌, refl, sym, ap, ap₂, ◌∙◌}
use mathlib.Core.Bool.{Bool, true, false, not}
use mathlib.Core.List.{List, [], ◌++◌}
use Prim.Native.Nat.{ℕ, zero, suc, ◌+◌, ◌-◌, ◌*◌, ◌≤◌, ◌<◌}
use native.Mathlib.Omega.{arith}
use native.Mathlib.Numerals.{add-one}
use lib.Dec.{eqb}
use lib.ListN.{length, get_or, drop, replicate, length-append, drop_of_length-le}
use lib.Seq.{drop-cons, sets}
use Rattle.buffers.proofs.Sets.{sets_append}
use Rattle.runs.specs.Runs.{first_listed, run_ends, runs, run_numbers}
use Rattle.runs.specs.Machine.Ends.{listed_before, ends_at}

pub listed_at : (w : List Bool) (i : ℕ) → i < length w → get_or w i false ≡ first_listed (drop i w)
unfolding first_listed
listed_at w i h = rw (drop-cons w i false)

pub listed_past : (w : List Bool) (i : ℕ) → length w ≤ i → false ≡ first_listed (drop i w)
unfolding first_listed
listed_past w i h = rw (drop_of_length-le w h)

-- the numbers of minute i, and then those of the minutes after it
runs_at : (w : List Bool) (i : ℕ) → i < length w
    → runs i (listed_before w i) (drop i w) ≡ ends_at w i ++ runs (i + 1) (listed_before w (i + 1)) (drop (i + 1) w)
unfolding runs first_listed listed_before ends_at
runs_at w i h = rw (add-one i, drop-cons w i false)

runs_past : (w : List Bool) (i : ℕ) (before : Bool) → length w ≤ i → runs i before (drop i w) ≡ []
unfolding runs
runs_past w i before h = rw (drop_of_length-le w h)

-- how many numbers a minute gives does not depend on which it is
pub ends_length : (i : ℕ) (before here after : Bool) → length (run_ends i before here after) ≡ length (run_ends 0 before here after)
unfolding run_ends
ends_length i false false false = refl
ends_length i false false true = refl
ends_length i true false false = refl
ends_length i true false true = refl
ends_length i false true false = refl
ends_length i false true true = refl
ends_length i true true false = refl
ends_length i true true true = refl

-- whether the minute before is listed, from what the code asks of it
pub before_none : (w : List Bool) (i : ℕ) → i ≡ 0 → not (eqb i 0) ≡ listed_before w i
unfolding listed_before
before_none w zero h = refl
before_none w (suc i) h = absurd (omega arith)

pub before_is : (w : List Bool) (i : ℕ) → (i ≡ 0 → ⊥) → first_listed (drop (i - 1) w) ≡ listed_before w i
unfolding listed_before
before_is w zero h = absurd (h refl)
before_is w (suc i) h = let e : suc i - 1 ≡ i = omega arith in ap (λ (k : ℕ). first_listed (drop k w)) e

pub ends_told : (w : List Bool) (i n : ℕ) (before here after : Bool) → before ≡ listed_before w i → here ≡ first_listed (drop i w)
    → after ≡ first_listed (drop (i + 1) w) → n ≡ length (run_ends 0 before here after) → n ≡ length (ends_at w i)
unfolding ends_at
ends_told w i n before here after b h a e = rw (← b, ← h, ← a) (e ∙ sym (ends_length i before here after))

-- n numbers so far, and as many as the minutes from i on give, are all
pub record Counted (w : List Bool) (n i : ℕ) : Type 0 where
  pub few : n ≤ 2 * i
  pub all : n + length (runs i (listed_before w i) (drop i w)) ≡ length (run_numbers w)

pub counted_none : (w : List Bool) → Counted w 0 0
unfolding run_numbers listed_before
counted_none w = record { few = omega arith; all = omega arith }

pub counted_more : (w : List Bool) (n i m : ℕ) → Counted w n i → i < length w → m ≡ length (ends_at w i) → m ≤ 2 → Counted w (n + m) (i + 1)
counted_more w n i m c h e l = record {
  few = let k = c.few in omega arith;
  all =
      let a = c.all in
      omega (arith, ap length (runs_at w i h), length-append (ends_at w i) (runs (i + 1) (listed_before w (i + 1)) (drop (i + 1) w)));
}

pub counted_all : (w : List Bool) (n i : ℕ) → Counted w n i → length w ≤ i → n ≡ length (run_numbers w)
counted_all w n i c h = let a = c.all in omega (arith, ap length (runs_past w i (listed_before w i) h))

-- what is still to be written gives what the whole gives
pub record Written (w : List Bool) (start out : List ℕ) (at i : ℕ) : Type 0 where
  pub room : at + length (runs i (listed_before w i) (drop i w)) ≤ length start
  pub left : sets out at (runs i (listed_before w i) (drop i w)) ≡ sets start 0 (run_numbers w)

pub written_none : (w : List Bool) (start : List ℕ) → length (run_numbers w) ≤ length start → Written w start start 0 0
unfolding run_numbers listed_before
written_none w start h = record { room = omega arith; left = refl }

module _ (w : List Bool) (start out : List ℕ) (at i : ℕ) (c : Written w start out at i) (h : i < length w) where
  pub written_room : at + length (ends_at w i) ≤ length start
  written_room =
      let r = c.room in
      omega (arith, ap length (runs_at w i h), length-append (ends_at w i) (runs (i + 1) (listed_before w (i + 1)) (drop (i + 1) w)))

  pub written_more : (out' : List ℕ) (at' : ℕ) → at' ≡ at + length (ends_at w i) → out' ≡ sets out at (ends_at w i) → Written w start out' at' (i + 1)
  written_more out' at' e f = record {
    room =
        let r = c.room in
        omega (arith, ap length (runs_at w i h), length-append (ends_at w i) (runs (i + 1) (listed_before w (i + 1)) (drop (i + 1) w)));
    left =
        ap₂ (λ (l : List ℕ) (k : ℕ). sets l k (runs (i + 1) (listed_before w (i + 1)) (drop (i + 1) w))) f e
        ∙ sym (sets_append (ends_at w i) (runs (i + 1) (listed_before w (i + 1)) (drop (i + 1) w)) out at)
        ∙ ap (λ (xs : List ℕ). sets out at xs) (sym (runs_at w i h)) ∙ c.left;
  }

pub written_all : (w : List Bool) (start out : List ℕ) (at i : ℕ) → Written w start out at i → length w ≤ i → out ≡ sets start 0 (run_numbers w)
written_all w start out at i c h = ap (λ (xs : List ℕ). sets out at xs) (sym (runs_past w i (listed_before w i) h)) ∙ c.left

-- ---- the numbers of a minute are all its own

ends_alike : (i : ℕ) (before here after : Bool) → run_ends i before here after ≡ replicate (length (run_ends i before here after)) i
unfolding run_ends
ends_alike i false false false = refl
ends_alike i false false true = refl
ends_alike i true false false = refl
ends_alike i true false true = refl
ends_alike i false true false = refl
ends_alike i false true true = refl
ends_alike i true true false = refl
ends_alike i true true true = refl

pub same_ends : (w : List Bool) (i n : ℕ) → n ≡ length (ends_at w i) → replicate n i ≡ ends_at w i
unfolding ends_at
same_ends w i n e = rw e (sym (ends_alike i (listed_before w i) (first_listed (drop i w)) (first_listed (drop (i + 1) w))))
