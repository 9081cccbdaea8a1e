-- The cosines and sines by one shift of the quarter (0 or 3) and the nested series. Assumes nothing.
use mathlib.Core.Path.{◌≡◌, ap, ◌∙◌}
use Prim.Native.Nat.{ℕ, zero, suc, ◌+◌, ◌%◌}
use native.Mathlib.Omega.{arith}
use lib.IntN.{ℤ, pos, ◌+ℤ◌, ◌*ℤ◌, neg_ℤ, +ℤ_idr}
use Rattle.integers.specs.Division.{modulo}
use Rattle.integers.proofs.Division.{modulo_lt}
use Rattle.integers.specs.Fractions.{Fraction, negᶠ}
use Rattle.units.specs.Units.{four_radians as F}
use Rattle.cosine.specs.Cosine.{cosine_by, even_part, odd_part, q_of, w_of, working_cosine, working_sine}
use Rattle.reference_cosine.specs.Reference.{ref_q, ref_r, even_series, odd_series, reference_cosine, reference_sine}
use Rattle.cosine.proofs.Shifts.{shifted, sine_shift}
use Rattle.reference_cosine.proofs.Divisors.{low_by_quarter}
use Rattle.reference_cosine.proofs.Lipschitz.{f_up, f_low}
use Rattle.reference_cosine.proofs.WorkingSeries.{working}
use Rattle.reference_cosine.proofs.PowerSeries.{C_up_is, C_low_is, S_up_is, S_low_is}

pub cosine_is : (Q step : ℕ) (X : ℤ) → working (modulo (q_of Q X +ℤ pos 0) 4) (w_of Q step X) ≡ working_cosine Q step X
unfolding working working_cosine
cosine_is Q step X = ap (λ q. working (modulo q 4) (w_of Q step X)) (+ℤ_idr (q_of Q X))

pub sine_is : (Q step : ℕ) (X : ℤ) → working (modulo (q_of Q X +ℤ pos 3) 4) (w_of Q step X) ≡ working_sine Q step X
unfolding working working_sine
sine_is Q step X =
    ap (λ k. working k (w_of Q step X)) (shifted (q_of Q X))
    ∙ sine_shift neg_ℤ (modulo (q_of Q X) 4) (modulo_lt (q_of Q X) 4 (omega arith)) (even_part (w_of Q step X)) (odd_part (w_of Q step X))

abbrev pub nested : ℕ → ℤ → ℤ → Fraction
nested k r N = record { upper = f_up k r N; lower = f_low k N }

-- the plain series by the quarter
plain : (k : ℕ) (r N : ℤ) → nested k r N ≡ cosine_by negᶠ k (even_series r N) (odd_series r N)
unfolding f_up f_low even_series odd_series cosine_by low_by_quarter negᶠ
plain zero r N = λ i. record { upper = C_up_is r N i; lower = C_low_is N i }
plain (suc zero) r N = λ i. record { upper = neg_ℤ (S_up_is r N i); lower = S_low_is N i }
plain (suc (suc zero)) r N = λ i. record { upper = neg_ℤ (C_up_is r N i); lower = C_low_is N i }
plain (suc (suc (suc k))) r N = λ i. record { upper = S_up_is r N i; lower = S_low_is N i }

pub reference_is : (n : ℤ) (N : ℕ) → nested (modulo (ref_q n N +ℤ pos 0) 4) (ref_r n N) (pos F *ℤ pos N) ≡ reference_cosine n N
unfolding reference_cosine
reference_is n N = ap (λ q. nested (modulo q 4) (ref_r n N) (pos F *ℤ pos N)) (+ℤ_idr (ref_q n N)) ∙ plain (modulo (ref_q n N) 4) (ref_r n N) (pos F *ℤ pos N)

pub reference_sine_is : (n : ℤ) (N : ℕ) → nested (modulo (ref_q n N +ℤ pos 3) 4) (ref_r n N) (pos F *ℤ pos N) ≡ reference_sine n N
unfolding reference_sine
reference_sine_is n N =
    ap (λ k. nested k (ref_r n N) (pos F *ℤ pos N)) (shifted (ref_q n N))
    ∙ plain ((modulo (ref_q n N) 4 + 3) % 4) (ref_r n N) (pos F *ℤ pos N)
    ∙ sine_shift negᶠ (modulo (ref_q n N) 4) (modulo_lt (ref_q n N) 4 (omega arith)) (even_series (ref_r n N) (pos F *ℤ pos N))
    (odd_series (ref_r n N) (pos F *ℤ pos N))
