-- What the functions of window.rt ask and answer. Assumes nothing.
use mathlib.Core.Path.{◌≡◌, refl, sym, ap, ap₂, ◌∙◌, subst}
use mathlib.Core.Bool.{Bool, true, false, ◌||◌, not, cond}
use mathlib.Core.List.{List, map}
use Prim.Native.Nat.{ℕ, zero, suc, ◌+◌, ◌≤◌, ◌<◌}
use native.Mathlib.Omega.{arith}
use native.Mathlib.Numerals.{add-one}
use borrow.Author.Tests.{le-leb, lt-leb}
use lib.ListN.{length}
use lib.Seq.{sets}
use Rattle.units.specs.Units.{near}
use Rattle.units.specs.declared.Instant.{Instant}
use Rattle.units.specs.declared.Refusal.TheVariants.{NoRoom}
use Rattle.std.specs.Prelude.{Err, Ok, Option, None, Some, MatchOption}
use Rattle.std.specs.List.{find, range_with_len}
use Rattle.std.specs.Option.{option_map}
use Rattle.sunlist.specs.SunList.{minute, first_failing, numbers, answered, written}
use Rattle.sunlist.specs.Machine.Window.{asked_at, FoundFar}
use Rattle.sunlist.proofs.Failing.{none_fails}

-- ---- first_far

pub good_asked : (t0 : Instant) (n : ℕ) (wide : Bool) → wide ≡ true → n ≤ first_failing (asked_at t0 wide) 0 n
good_asked t0 n wide e = let f = none_fails (asked_at t0 wide) 0 n (λ i l. rw e (or_true (near (minute t0 i).ms))) in omega arith
  where
    or_true : (b : Bool) → (b || true) ≡ true
    or_true true = refl
    or_true false = refl

-- At minute j, of series that are not both good.
pub asked_near : (t0 : Instant) (wide : Bool) (j : ℕ) (t : Instant) (b : Bool) → wide ≡ false → t ≡ minute t0 j → near t.ms ≡ b → asked_at t0 wide j ≡ b
asked_near t0 wide j t b w e h = ap₂ ◌||◌ (ap (λ (s : Instant). near s.ms) (sym e) ∙ h) w ∙ or_false b
  where
    or_false : (b : Bool) → (b || false) ≡ b
    or_false true = refl
    or_false false = refl

-- The first far one of n minutes from minute j on, of series that are not both good.
module _ (t0 : Instant) (wide : Bool) (w : wide ≡ false) where
  abbrev left : ℕ → ℕ → List Instant
  left j n = map (minute t0) (range_with_len j n)

  abbrev Found : ℕ → ℕ → Option Instant → Type 0
  Found j n r =
      MatchOption r (j + n ≤ first_failing (asked_at t0 wide) j n)
      (λ t. (first_failing (asked_at t0 wide) j n < j + n) × (t ≡ minute t0 (first_failing (asked_at t0 wide) j n)))

  one_minute : (j n : ℕ) (b : Bool) (r : Option Instant) → asked_at t0 wide j ≡ b → Found (suc j) n r → Found j (suc n) (cond (not b) (Some (minute t0 j)) r)
  unfolding first_failing
  one_minute j n true None e f = rw e (omega arith)
  one_minute j n true (Some t) e f = rw e (omega arith, f.1)
  one_minute j n false r e f = rw e (omega arith, refl)

  found_from : (j n : ℕ) → Found j n (find (λ (t : Instant). not (near t.ms)) (left j n))
  unfolding first_failing
  found_from j zero = omega arith
  found_from j (suc n) =
      let Rest : ℕ → Type 0 = λ k. Found k n (find (λ (t : Instant). not (near t.ms)) (left (j + 1) n)) in
      one_minute j n (near (minute t0 j).ms) (find (λ (t : Instant). not (near t.ms)) (left (j + 1) n)) (asked_near t0 wide j (minute t0 j) _ w refl refl)
      (subst Rest (add-one j) (found_from (j + 1) n))

  pub found_far : (n : ℕ) (r : Option Instant) → option_map (λ (t : Instant). t) r ≡ find (λ (t : Instant). not (near t.ms)) (left 0 n)
      → FoundFar (asked_at t0 wide) t0 n r
  found_far n None e = let f = subst (Found 0 n) (sym e) (found_from 0 n) in omega arith
  found_far n (Some t) e = let f = subst (Found 0 n) (sym e) (found_from 0 n) in (omega arith, f.1)

-- ---- write_runs
pub no_room : (xs out : List ℕ) (n : ℕ) → n ≡ length xs → length out < n → (Err (NoRoom n) ≡ answered (length out) (numbers xs))
    × (out ≡ written out (numbers xs))
unfolding answered written
no_room xs out n e h = let l : length out < length xs = omega arith in rw (lt-leb (length xs) (length out) l, e) (refl, refl)

pub all_written : (xs out now : List ℕ) (n : ℕ) → n ≡ length xs → n ≤ length out → now ≡ sets out 0 xs → (Ok n ≡ answered (length out) (numbers xs))
    × (now ≡ written out (numbers xs))
unfolding answered written
all_written xs out now n e h f = let l : length xs ≤ length out = omega arith in rw (le-leb (length xs) (length out) l, e) (refl, f)
