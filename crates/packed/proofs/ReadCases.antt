-- The numbers of a term as they are read: each case, and the offset that it comes to. Assumes nothing.
use mathlib.Core.Path.{◌≡◌, refl}
use mathlib.Core.Bool.{Bool, true, false}
use mathlib.Core.List.{List}
use Prim.Native.Nat.{ℕ, ◌+◌, ◌-◌, ◌≤◌}
use native.Mathlib.Nat.{le_refl}
use native.Mathlib.Omega.{arith}
use lib.IntN.{ℤ}
use lib.ListN.{drop}
use Rattle.units.specs.declared.Refusal.{Refusal}
use Rattle.units.specs.declared.Refusal.TheVariants.{OverLimit, TotalOverLimit, TooCoarse}
use Rattle.packed_numbers.specs.Numbers.{Read, got, bad, next, number, unfolded}
use Rattle.packed_numbers.proofs.Reading.{After, moved, stopped, cond_after, next_after, number_after, later}
use Rattle.limits.specs.declared.Tally.{Tally}
use Rattle.limits.specs.Limits.{a_fits, b_fits, c_fits, total_fits, coarse_fits, term_may_come}
use Rattle.limits.proofs.Passing.{all_passed}
use Rattle.packed.specs.Series.{judged, read_a, read_b, read_c, read_term}
use Rattle.packed.specs.Machine.Answers.{term_of}

-- Where a reader stands after a value that was judged.
pub judged_after : {A : Type 0} {s : List ℕ} {low : ℕ} {r : Read A} (t : Bool) (refusal : ℕ → Refusal) (to : ℕ)
    → After s low r → After s low (judged t refusal to r)
unfolding judged
judged_after t refusal to h = cond_after t h stopped

-- The number a, with the tests that it passes.
module _ (s : Tally) (at : ℕ) (x : List ℕ) where
  pub a_bad : (q : Refusal) → number at x ≡ bad q → read_a s at x ≡ bad q
  unfolding read_a next
  a_bad q e = rw e

  module _ (v to : ℕ) (rest : List ℕ) (e : number at x ≡ got v to rest) where
    pub a_over : a_fits (unfolded v) ≡ false → read_a s at x ≡ bad (OverLimit (to - 1))
    unfolding read_a next judged
    a_over h = rw (e, h)

    pub a_total : a_fits (unfolded v) ≡ true → total_fits s (unfolded v) ≡ false → read_a s at x ≡ bad (TotalOverLimit (to - 1))
    unfolding read_a next judged
    a_total h k = rw (e, h, k)

    pub a_got : a_fits (unfolded v) ≡ true → total_fits s (unfolded v) ≡ true → read_a s at x ≡ got (unfolded v) to rest
    unfolding read_a next judged
    a_got h k = rw (e, h, k)

-- The number b.
module _ (at : ℕ) (x : List ℕ) where
  pub b_bad : (q : Refusal) → number at x ≡ bad q → read_b at x ≡ bad q
  unfolding read_b next
  b_bad q e = rw e

  module _ (v to : ℕ) (rest : List ℕ) (e : number at x ≡ got v to rest) where
    pub b_over : b_fits v ≡ false → read_b at x ≡ bad (OverLimit (to - 1))
    unfolding read_b next judged
    b_over h = rw (e, h)

    pub b_got : b_fits v ≡ true → read_b at x ≡ got v to rest
    unfolding read_b next judged
    b_got h = rw (e, h)

-- The number c.
module _ (f : ℕ) (s : Tally) (a : ℤ) (b at : ℕ) (x : List ℕ) where
  pub c_bad : (q : Refusal) → number at x ≡ bad q → read_c f s a b at x ≡ bad q
  unfolding read_c next
  c_bad q e = rw e

  module _ (v to : ℕ) (rest : List ℕ) (e : number at x ≡ got v to rest) where
    pub c_over : c_fits (unfolded v) ≡ false → read_c f s a b at x ≡ bad (OverLimit (to - 1))
    unfolding read_c next judged
    c_over h = rw (e, h)

    pub c_coarse : c_fits (unfolded v) ≡ true → coarse_fits f s a b (unfolded v) ≡ false → read_c f s a b at x ≡ bad (TooCoarse (to - 1))
    unfolding read_c next judged
    c_coarse h k = rw (e, h, k)

    pub c_got : c_fits (unfolded v) ≡ true → coarse_fits f s a b (unfolded v) ≡ true → read_c f s a b at x ≡ got (unfolded v) to rest
    unfolding read_c next judged
    c_got h k = rw (e, h, k)

-- Where these readers come to.
pub a_after : (s : List ℕ) (at : ℕ) (tally : Tally) → After s (at + 1) (read_a tally at (drop at s))
unfolding read_a
a_after s at tally =
    next_after (number at (drop at s)) _ (number_after s at)
    (λ v to. judged_after (a_fits (unfolded v)) OverLimit to (judged_after (total_fits tally (unfolded v)) TotalOverLimit to (moved refl (le_refl to))))

pub b_after : (s : List ℕ) (at : ℕ) → After s (at + 1) (read_b at (drop at s))
unfolding read_b
b_after s at =
    next_after (number at (drop at s)) _ (number_after s at) (λ v to. judged_after (b_fits v) OverLimit to (moved refl (le_refl to)))

pub c_after : (s : List ℕ) (f : ℕ) (tally : Tally) (a : ℤ) (b at : ℕ) → After s (at + 1) (read_c f tally a b at (drop at s))
unfolding read_c
c_after s f tally a b at =
    next_after (number at (drop at s)) _ (number_after s at)
    (λ v to. judged_after (c_fits (unfolded v)) OverLimit to (judged_after (coarse_fits f tally a b (unfolded v)) TooCoarse to (moved refl (le_refl to))))

pub term_after : (s : List ℕ) (f : ℕ) (tally : Tally) (at : ℕ) → After s (at + 1) (read_term f tally at (drop at s))
unfolding read_term
term_after s f tally at =
    next_after (read_a tally at (drop at s)) _ (a_after s at tally) (λ a to.
    next_after (read_b to (drop to s)) _ (later to (le_succ to) (b_after s to)) (λ b to.
    next_after (read_c f tally a b to (drop to s)) _ (later to (le_succ to) (c_after s f tally a b to)) (λ c to. moved refl (le_refl to))))
  where
    le_succ : (n : ℕ) → n ≤ n + 1
    le_succ n = omega arith

-- A term that was read, each case.
module _ (f : ℕ) (s : Tally) (at : ℕ) (x : List ℕ) where
  pub term_bad_a : (q : Refusal) → read_a s at x ≡ bad q → read_term f s at x ≡ bad q
  unfolding read_term next
  term_bad_a q e = rw e

  module _ (a : ℤ) (to : ℕ) (y : List ℕ) (ea : read_a s at x ≡ got a to y) where
    pub term_bad_b : (q : Refusal) → read_b to y ≡ bad q → read_term f s at x ≡ bad q
    unfolding read_term next
    term_bad_b q e = rw (ea, e)

    module _ (b end : ℕ) (z : List ℕ) (eb : read_b to y ≡ got b end z) where
      pub term_bad_c : (q : Refusal) → read_c f s a b end z ≡ bad q → read_term f s at x ≡ bad q
      unfolding read_term next
      term_bad_c q e = rw (ea, eb, e)

      pub term_got : (c : ℤ) (last : ℕ) (rest : List ℕ) → read_c f s a b end z ≡ got c last rest
          → read_term f s at x ≡ got (record { a = a; b = b; c = c }) last rest
      unfolding read_term next
      term_got c last rest e = rw (ea, eb, e)

  -- All tests at once.
  pub term_fit : (a to : ℕ) (y : List ℕ) → number at x ≡ got a to y → (b end : ℕ) (z : List ℕ) → number to y ≡ got b end z
      → (c last : ℕ) (rest : List ℕ) → number end z ≡ got c last rest
      → term_may_come f s (term_of a b c) ≡ true → read_term f s at x ≡ got (term_of a b c) last rest
  unfolding read_term read_a read_b read_c next judged
  term_fit a to y ea b end z eb c last rest ec fit =
      let p = all_passed f s (term_of a b c) fit in
      rw (ea, p.a, p.total, eb, p.b, ec, p.c, p.coarse)
