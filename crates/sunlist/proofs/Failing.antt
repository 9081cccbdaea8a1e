-- The first of n minutes at which a test fails: past them where all pass, and found minute by minute. Assumes nothing.
use mathlib.Core.Path.{◌≡◌, refl, sym, ap, ap₂, ◌∙◌, subst}
use mathlib.Core.Bool.{Bool, true, false, cond}
use Prim.Native.Nat.{ℕ, zero, suc, ◌+◌, ◌-◌, ◌≤◌, ◌<◌}
use native.Mathlib.Omega.{arith}
use Rattle.sunlist.specs.SunList.{first_failing}

-- Two tests that agree fail first at the same minute.
pub same_failing : (test other : ℕ → Bool) → ((i : ℕ) → test i ≡ other i) → (j n : ℕ) → first_failing test j n ≡ first_failing other j n
unfolding first_failing
same_failing test other h j zero = refl
same_failing test other h j (suc n) = ap₂ (λ (b : Bool) (m : ℕ). cond b m j) (h j) (same_failing test other h (suc j) n)

-- Where all of n minutes from j on pass, it is past them.
pub none_fails : (test : ℕ → Bool) (j n : ℕ) → ((i : ℕ) → i < j + n → test i ≡ true) → first_failing test j n ≡ j + n
unfolding first_failing
none_fails test j zero h = sym (plus_zero j)
  where
    plus_zero : (j : ℕ) → j + 0 ≡ j
    plus_zero j = omega arith
none_fails test j (suc n) h =
    ap (λ (b : Bool). cond b (first_failing test (suc j) n) j) (h j (omega arith))
    ∙ none_fails test (suc j) n (λ i l. h i (omega arith)) ∙ shift j n
  where
    shift : (j n : ℕ) → suc j + n ≡ j + suc n
    shift j n = omega arith

-- Where it is past them, all pass.
one_more : (g : Bool) (x j m : ℕ) → j + suc m ≤ cond g x j → (g ≡ true) × (suc j + m ≤ x)
one_more true x j m h = (refl, omega arith)
one_more false x j m h = absurd (omega arith)

pass_from : (test : ℕ → Bool) (j n : ℕ) → j + n ≤ first_failing test j n → (i : ℕ) → i < n → test (j + i) ≡ true
unfolding first_failing
pass_from test j zero h i l = absurd (omega arith)
pass_from test j (suc n) h zero l = rw (zero_more j) (one_more (test j) (first_failing test (suc j) n) j n h).0
  where
    zero_more : (j : ℕ) → j + 0 ≡ j
    zero_more j = omega arith
pass_from test j (suc n) h (suc i) l =
    rw (shift j i) (pass_from test (suc j) n (one_more (test j) (first_failing test (suc j) n) j n h).1 i (omega arith))
  where
    shift : (j i : ℕ) → j + suc i ≡ suc j + i
    shift j i = omega arith

pub all_pass : (test : ℕ → Bool) (n : ℕ) → n ≤ first_failing test 0 n → (i : ℕ) → i < n → test i ≡ true
all_pass test n h i l = subst (λ (m : ℕ). test m ≡ true) (zero_plus i) (pass_from test 0 n (omega arith) i l)
  where
    zero_plus : (i : ℕ) → 0 + i ≡ i
    zero_plus i = omega arith

-- A search has come to minute j of n, and none before it has failed.
pub record Searched (test : ℕ → Bool) (n j : ℕ) : Type 0 where
  pub so_far : j ≤ n
  pub left : first_failing test j (n - j) ≡ first_failing test 0 n

pub searched_none : (test : ℕ → Bool) (n : ℕ) → Searched test n 0
searched_none test n = record { so_far = omega arith; left = ap (first_failing test 0) (all_left n) }
  where
    all_left : (n : ℕ) → n - 0 ≡ n
    all_left n = omega arith

failing_step : (test : ℕ → Bool) (j m k : ℕ) → m ≡ suc k → first_failing test j m ≡ cond (test j) (first_failing test (suc j) k) j
unfolding first_failing
failing_step test j m k e = rw e

module _ (test : ℕ → Bool) (n j : ℕ) (s : Searched test n j) where
  -- One minute's step of the definition.
  step : j < n → (b : Bool) → test j ≡ b → cond b (first_failing test (suc j) (n - suc j)) j ≡ first_failing test 0 n
  step l b e =
      ap (λ (b : Bool). cond b (first_failing test (suc j) (n - suc j)) j) (sym e)
      ∙ sym (failing_step test j (n - j) (n - suc j) (omega arith)) ∙ s.left

  pub searched_more : j < n → test j ≡ true → Searched test n (suc j)
  searched_more l e = record { so_far = omega arith; left = step l true e }

  pub searched_found : j < n → test j ≡ false → j ≡ first_failing test 0 n
  searched_found l e = step l false e

  pub searched_all : n ≤ j → j ≡ first_failing test 0 n
  unfolding first_failing
  searched_all h = subst (λ (m : ℕ). first_failing test j m ≡ first_failing test 0 n) (none n j h) s.left
    where
      none : (n j : ℕ) → n ≤ j → n - j ≡ 0
      none n j h = omega arith
