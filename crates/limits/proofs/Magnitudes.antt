-- The limits ask for magnitudes: what is judged of the magnitudes of a and c is judged of a and c. Assumes nothing.
use mathlib.Core.Path.{◌≡◌}
use Prim.Native.Nat.{ℕ}
use lib.IntN.{ℤ, pos, nat_abs}
use Rattle.limits.specs.declared.Term.{Term}
use Rattle.limits.specs.declared.Tally.{Tally}
use Rattle.limits.specs.Limits.{constant, weight, added, a_fits, c_fits, total_fits, coarse_fits, term_may_come, numbers_fit, term_refusal}
use Rattle.limits.specs.Machine.Magnitudes.{unsigned}

pub a_size : (a : ℤ) {m : ℕ} → m ≡ nat_abs a → a_fits (pos m) ≡ a_fits a
unfolding a_fits
a_size a e = rw e

pub c_size : (c : ℤ) {n : ℕ} → n ≡ nat_abs c → c_fits (pos n) ≡ c_fits c
unfolding c_fits
c_size c e = rw e

pub total_size : (s : Tally) (a : ℤ) {m : ℕ} → m ≡ nat_abs a → total_fits s (pos m) ≡ total_fits s a
unfolding total_fits
total_size s a e = rw e

module _ (f : ℕ) (s : Tally) where
  pub coarse_size : (a : ℤ) (b : ℕ) (c : ℤ) {m n : ℕ} → m ≡ nat_abs a → n ≡ nat_abs c → coarse_fits f s (pos m) b (pos n) ≡ coarse_fits f s a b c
  unfolding coarse_fits weight constant
  coarse_size a b c p q = rw (p, q)

  module _ (t : Term) {m n : ℕ} (p : m ≡ nat_abs t.a) (q : n ≡ nat_abs t.c) where
    pub may_come_size : term_may_come f s (unsigned m t.b n) ≡ term_may_come f s t
    unfolding term_may_come a_fits c_fits total_fits coarse_fits weight constant
    may_come_size = rw (p, q)

    pub refusal_size : term_refusal f s (unsigned m t.b n) ≡ term_refusal f s t
    unfolding term_refusal numbers_fit a_fits c_fits total_fits coarse_fits weight constant
    refusal_size = rw (p, q)

    pub added_size : added f s (unsigned m t.b n) ≡ added f s t
    unfolding added weight constant
    added_size = rw (p, q)
