-- An angle moved by whole quarters: they come out of its reduction, and three of them make a sine of a cosine. Assumes nothing.
use mathlib.Core.Path.{◌≡◌, refl, ap, ◌∙◌}
use mathlib.Core.List.{[], ◌∷◌}
use Prim.Native.Nat.{ℕ, zero, suc, ◌+◌, ◌%◌, ◌<◌}
use native.Mathlib.Omega.{arith}
use lib.IntN.{ℤ, pos, ◌+ℤ◌, ◌-ℤ◌, ◌*ℤ◌}
use Rattle.integers.proofs.Auto.{ring!, polys}
use Rattle.integers.specs.Division.{modulo}
use Rattle.integers.proofs.Division.{rounded_add, modulo_add}
use Rattle.cosine.specs.Cosine.{cosine_by, sine_by, q_of, r_of}

pub q_shift : (Q : ℕ) → 0 < Q → (k m : ℤ) → q_of Q (pos Q *ℤ k +ℤ m) ≡ k +ℤ q_of Q m
unfolding q_of
q_shift Q h k m = rounded_add k m Q h

r_law : (Q k m q : ℤ) → Q *ℤ k +ℤ m -ℤ (k +ℤ q) *ℤ Q ≡ m -ℤ q *ℤ Q
r_law Q k m q = ring! (Q ∷ k ∷ m ∷ q ∷ []) (search polys depth 60 fits 100000) tt

pub r_shift : (Q : ℕ) → 0 < Q → (k m : ℤ) → r_of Q (pos Q *ℤ k +ℤ m) ≡ r_of Q m
unfolding r_of
r_shift Q h k m = ap (λ t. pos Q *ℤ k +ℤ m -ℤ t *ℤ pos Q) (q_shift Q h k m) ∙ r_law (pos Q) k m (q_of Q m)

pub shifted : (q : ℤ) → modulo (q +ℤ pos 3) 4 ≡ (modulo q 4 + 3) % 4
unfolding modulo
shifted q = modulo_add q (pos 3) 4 (omega arith)

pub sine_shift : {A : Type 0} (neg : A → A) (k : ℕ) → k < 4 → (e o : A) → cosine_by neg ((k + 3) % 4) e o ≡ sine_by neg k e o
unfolding cosine_by sine_by
sine_shift neg zero h e o = refl
sine_shift neg (suc zero) h e o = refl
sine_shift neg (suc (suc zero)) h e o = refl
sine_shift neg (suc (suc (suc zero))) h e o = refl
sine_shift neg (suc (suc (suc (suc k)))) h e o = absurd (omega arith)
