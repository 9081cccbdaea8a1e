-- Whole turns do not change the cosine and the sine. Assumes nothing.
use mathlib.Core.Path.{◌≡◌, sym, ap, ap₂, ◌∙◌}
use mathlib.Core.List.{[], ◌∷◌}
use Prim.Native.Nat.{ℕ, ◌*◌, ◌<◌}
use native.Mathlib.Omega.{arith}
use lib.IntN.{ℤ, pos, ◌+ℤ◌, ◌*ℤ◌, neg_ℤ}
use Rattle.integers.proofs.Auto.{ring!, polys}
use Rattle.integers.specs.Division.{rounded, modulo, floor}
use Rattle.integers.proofs.Division.{modulo_shift, floor_modulo}
use Rattle.units.specs.Units.{quarter, turn, angle_step}
use Rattle.cosine.specs.Cosine.{cosine_by, sine_by, even_part, odd_part, q_of, w_of, working_cosine, working_sine, cosine, sine}
use Rattle.cosine.proofs.Shifts.{q_shift, r_shift}

again : (Q k m : ℤ) → pos 4 *ℤ Q *ℤ k +ℤ m ≡ Q *ℤ (pos 4 *ℤ k) +ℤ m
again Q k m = ring! (Q ∷ k ∷ m ∷ []) (search polys depth 60 fits 100000) tt

quarters_only : (Q : ℕ) → 0 < Q → (k m : ℤ) → modulo (q_of Q (pos Q *ℤ (pos 4 *ℤ k) +ℤ m)) 4 ≡ modulo (q_of Q m) 4
quarters_only Q h k m = ap (λ t. modulo t 4) (q_shift Q h (pos 4 *ℤ k) m) ∙ modulo_shift k (q_of Q m) 4 (omega arith)

same_w : (Q step : ℕ) → 0 < Q → (k m : ℤ) → w_of Q step (pos Q *ℤ (pos 4 *ℤ k) +ℤ m) ≡ w_of Q step m
unfolding w_of
same_w Q step h k m = ap (λ t. rounded t step) (r_shift Q h (pos 4 *ℤ k) m)

whole_turns : (Q step : ℕ) → 0 < Q → (k m : ℤ) → working_cosine Q step (pos (4 * Q) *ℤ k +ℤ m) ≡ working_cosine Q step m
unfolding working_cosine
whole_turns Q step h k m =
    ap (λ t. working_cosine Q step t) (again (pos Q) k m)
    ∙ ap₂ (λ a b. cosine_by neg_ℤ a (even_part b) (odd_part b)) (quarters_only Q h k m) (same_w Q step h k m)

mod_turn : (Q step : ℕ) → 0 < Q → (x : ℤ) → working_cosine Q step (pos (modulo x (4 * Q))) ≡ working_cosine Q step x
mod_turn Q step h x =
    sym (whole_turns Q step h (floor x (4 * Q)) (pos (modulo x (4 * Q)))) ∙ ap (λ t. working_cosine Q step t) (floor_modulo x (4 * Q) (omega arith))

whole_turns_sine : (Q step : ℕ) → 0 < Q → (k m : ℤ) → working_sine Q step (pos (4 * Q) *ℤ k +ℤ m) ≡ working_sine Q step m
unfolding working_sine
whole_turns_sine Q step h k m =
    ap (λ t. working_sine Q step t) (again (pos Q) k m)
    ∙ ap₂ (λ a b. sine_by neg_ℤ a (even_part b) (odd_part b)) (quarters_only Q h k m) (same_w Q step h k m)

mod_turn_sine : (Q step : ℕ) → 0 < Q → (x : ℤ) → working_sine Q step (pos (modulo x (4 * Q))) ≡ working_sine Q step x
mod_turn_sine Q step h x =
    sym (whole_turns_sine Q step h (floor x (4 * Q)) (pos (modulo x (4 * Q)))) ∙ ap (λ t. working_sine Q step t) (floor_modulo x (4 * Q) (omega arith))

-- At the turn of the rules.
pub cosine_turns : (k x : ℤ) → cosine (pos turn *ℤ k +ℤ x) ≡ cosine x
unfolding cosine
cosine_turns k x = whole_turns quarter angle_step (omega arith) k x

pub sine_turns : (k x : ℤ) → sine (pos turn *ℤ k +ℤ x) ≡ sine x
unfolding sine
sine_turns k x = whole_turns_sine quarter angle_step (omega arith) k x

pub cosine_mod : (x : ℤ) → cosine (pos (modulo x turn)) ≡ cosine x
unfolding cosine
cosine_mod x = mod_turn quarter angle_step (omega arith) x

pub sine_mod : (x : ℤ) → sine (pos (modulo x turn)) ≡ sine x
unfolding sine
sine_mod x = mod_turn_sine quarter angle_step (omega arith) x
