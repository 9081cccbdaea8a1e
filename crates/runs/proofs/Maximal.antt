-- The numbers of a window by their places: run i is the numbers 2i and 2i + 1. Assumes nothing.
use mathlib.Core.Path.{◌≡◌, refl, sym, ap, subst}
use mathlib.Core.Bool.{Bool, true, false}
use mathlib.Core.List.{List, [], ◌∷◌}
use Prim.Native.Nat.{ℕ, zero, suc, ◌+◌, ◌*◌, ◌≤◌, ◌<◌}
use native.Mathlib.Omega.{arith, by_contra}
use native.Mathlib.Decide.{dec_le}
use lib.ListN.{length, get_or}
use Rattle.integers.proofs.Tests.{true_false}
use Rattle.runs.proofs.Runs.{RunList, no_more, run}

-- the first and the last minute of run i
abbrev pub first_of : List ℕ → ℕ → ℕ
first_of xs i = get_or xs (2 * i) 0

abbrev pub last_of : List ℕ → ℕ → ℕ
last_of xs i = get_or xs (2 * i + 1) 0

-- run i holds minute j
abbrev pub Holds : List ℕ → ℕ → ℕ → Type 0
Holds xs i j = (first_of xs i ≤ j) × (j ≤ last_of xs i)

-- The numbers xs are r runs of the minutes below n: each listed minute is in exactly one, they hold listed minutes only, they rise, and at least one minute
-- lies between two.
pub record RunsOf (listed : ℕ → Bool) (n r : ℕ) (xs : List ℕ) : Type 0 where
  pub count : length xs ≡ 2 * r
  pub inside : (i : ℕ) → i < r → (first_of xs i ≤ last_of xs i) × (last_of xs i < n)
  pub rising : (i : ℕ) → suc i < r → last_of xs i + 2 ≤ first_of xs (suc i)
  pub only : (i j : ℕ) → i < r → Holds xs i j → listed j ≡ true
  pub every : (j : ℕ) → j < n → listed j ≡ true → (i : ℕ) × (i < r) × Holds xs i j
  pub once : (i k j : ℕ) → i < r → k < r → Holds xs i j → Holds xs k j → i ≡ k

first_next : (a b : ℕ) (xs : List ℕ) (i : ℕ) → first_of (a ∷ b ∷ xs) (suc i) ≡ first_of xs i
first_next a b xs i = ap (λ (k : ℕ). get_or (a ∷ b ∷ xs) k 0) (twice i)
  where
    twice : (i : ℕ) → 2 * suc i ≡ suc (suc (2 * i))
    twice i = omega arith

last_next : (a b : ℕ) (xs : List ℕ) (i : ℕ) → last_of (a ∷ b ∷ xs) (suc i) ≡ last_of xs i
last_next a b xs i = ap (λ (k : ℕ). get_or (a ∷ b ∷ xs) k 0) (twice i)
  where
    twice : (i : ℕ) → 2 * suc i + 1 ≡ suc (suc (2 * i + 1))
    twice i = omega arith

holds_next : (a b : ℕ) (xs : List ℕ) (i j : ℕ) → Holds (a ∷ b ∷ xs) (suc i) j → Holds xs i j
holds_next a b xs i j h = (subst (λ (k : ℕ). k ≤ j) (first_next a b xs i) h.0, subst (λ (k : ℕ). j ≤ k) (last_next a b xs i) h.1)

next_holds : (a b : ℕ) (xs : List ℕ) (i j : ℕ) → Holds xs i j → Holds (a ∷ b ∷ xs) (suc i) j
next_holds a b xs i j h = (subst (λ (k : ℕ). k ≤ j) (sym (first_next a b xs i)) h.0, subst (λ (k : ℕ). j ≤ k) (sym (last_next a b xs i)) h.1)

-- the runs from minute `from` on, with what a recursion needs besides
record From (listed : ℕ → Bool) (n from r : ℕ) (xs : List ℕ) : Type 0 where
  count : length xs ≡ 2 * r
  inside : (i : ℕ) → i < r → (first_of xs i ≤ last_of xs i) × (last_of xs i < n)
  after : (i : ℕ) → i < r → from ≤ first_of xs i
  rising : (i : ℕ) → suc i < r → last_of xs i + 2 ≤ first_of xs (suc i)
  only : (i j : ℕ) → i < r → Holds xs i j → listed j ≡ true
  every : (j : ℕ) → from ≤ j → j < n → listed j ≡ true → (i : ℕ) × (i < r) × Holds xs i j
  once : (i k j : ℕ) → i < r → k < r → Holds xs i j → Holds xs k j → i ≡ k

module _ (listed : ℕ → Bool) (n : ℕ) where
  from_none : (from : ℕ) → ((j : ℕ) → from ≤ j → j < n → listed j ≡ false) → From listed n from 0 []
  from_none from h = record {
    count = refl;
    inside = λ (i : ℕ) (l : i < 0). absurd (omega arith);
    after = λ (i : ℕ) (l : i < 0). absurd (omega arith);
    rising = λ (i : ℕ) (l : suc i < 0). absurd (omega arith);
    only = λ (i j : ℕ) (l : i < 0) (k : Holds [] i j). absurd (omega arith);
    every = λ (j : ℕ) (a : from ≤ j) (b : j < n) (e : listed j ≡ true). true_false (listed j) e (h j a b);
    once = λ (i k j : ℕ) (l : i < 0) (m : k < 0) (a : Holds [] i j) (b : Holds [] k j). absurd (omega arith);
  }

  module _ (from a b r : ℕ) (xs : List ℕ) (start : from ≤ a) (some : a ≤ b) (within : b < n) (before : (j : ℕ) → from ≤ j → j < a → listed j ≡ false)
      (in_run : (j : ℕ) → a ≤ j → j ≤ b → listed j ≡ true) (gap : suc b < n → listed (suc b) ≡ false) (f : From listed n (suc b) r xs) where
    inside' : (i : ℕ) → i < suc r → (first_of (a ∷ b ∷ xs) i ≤ last_of (a ∷ b ∷ xs) i) × (last_of (a ∷ b ∷ xs) i < n)
    inside' zero l = (some, within)
    inside' (suc i) l = let h = f.inside i (omega arith) in rw (first_next a b xs i, last_next a b xs i) h

    after' : (i : ℕ) → i < suc r → from ≤ first_of (a ∷ b ∷ xs) i
    after' zero l = start
    after' (suc i) l = let h = f.after i (omega arith) in rw (first_next a b xs i) (omega arith)

    -- the minute after the run is not listed, so the next run begins later
    far : 0 < r → suc (suc b) ≤ first_of xs 0
    far l =
        let s = f.after 0 l in
        let h = f.inside 0 l in
        by_contra (suc (suc b)) (first_of xs 0) (λ (g : first_of xs 0 < suc (suc b)).
        let e : first_of xs 0 ≡ suc b = omega arith in
        true_false (listed (suc b)) (f.only 0 (suc b) l (omega arith, omega arith)) (gap (omega arith)))

    rising' : (i : ℕ) → suc i < suc r → last_of (a ∷ b ∷ xs) i + 2 ≤ first_of (a ∷ b ∷ xs) (suc i)
    rising' zero l = rw (first_next a b xs 0) (let h = far (omega arith) in omega arith)
    rising' (suc i) l = rw (first_next a b xs (suc i), last_next a b xs i) (f.rising i (omega arith))

    only' : (i j : ℕ) → i < suc r → Holds (a ∷ b ∷ xs) i j → listed j ≡ true
    only' zero j l h = in_run j h.0 h.1
    only' (suc i) j l h = f.only i j (omega arith) (holds_next a b xs i j h)

    every' : (j : ℕ) → from ≤ j → j < n → listed j ≡ true → (i : ℕ) × (i < suc r) × Holds (a ∷ b ∷ xs) i j
    every' j p q e = go (dec_le a j) (dec_le j b)
      where
        later : suc b ≤ j → (i : ℕ) × (i < suc r) × Holds (a ∷ b ∷ xs) i j
        later s = let w = f.every j s q e in (suc w.0, (let k = w.1 in omega arith), next_holds a b xs w.0 j w.2)

        go : Dec (a ≤ j) → Dec (j ≤ b) → (i : ℕ) × (i < suc r) × Holds (a ∷ b ∷ xs) i j
        go (yes u) (yes v) = (0, omega arith, (u, v))
        go (yes u) (no v) = later (omega arith)
        go (no u) w = true_false (listed j) e (before j p (omega arith))

    once' : (i k j : ℕ) → i < suc r → k < suc r → Holds (a ∷ b ∷ xs) i j → Holds (a ∷ b ∷ xs) k j → i ≡ k
    once' zero zero j l m h g = refl
    once' zero (suc k) j l m h g = let s = f.after k (omega arith) in let t = holds_next a b xs k j g in let u = h.1 in absurd (omega arith)
    once' (suc i) zero j l m h g = let s = f.after i (omega arith) in let t = holds_next a b xs i j h in let u = g.1 in absurd (omega arith)
    once' (suc i) (suc k) j l m h g = ap suc (f.once i k j (omega arith) (omega arith) (holds_next a b xs i j h) (holds_next a b xs k j g))

    from_run : From listed n from (suc r) (a ∷ b ∷ xs)
    from_run =
        record { count = let c = f.count in omega arith; inside = inside'; after = after'; rising = rising'; only = only'; every = every'; once = once' }

  from_list : {from : ℕ} {xs : List ℕ} → RunList listed n from xs → (r : ℕ) × From listed n from r xs
  from_list {from} (no_more h) = (0, from_none from h)
  from_list {from} (run a b {rest} start some within before in_run gap l) =
      let f = from_list l in (suc f.0, from_run from a b f.0 rest start some within before in_run gap f.1)

  pub runs_of : {xs : List ℕ} → RunList listed n 0 xs → (r : ℕ) × RunsOf listed n r xs
  runs_of l =
      let p = from_list l in
      let f = p.1 in
      (p.0, record { count = f.count; inside = f.inside; rising = f.rising; only = f.only; every = λ j h e. f.every j (omega arith) h e; once = f.once })
