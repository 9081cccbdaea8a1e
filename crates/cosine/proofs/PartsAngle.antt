-- The angle of a whole number of parts, by cuts of the turn. Assumes nothing.
use mathlib.Core.Path.{◌≡◌, sym, ap, ◌∙◌}
use mathlib.Core.List.{[], ◌∷◌}
use Prim.Native.Nat.{ℕ, ◌+◌, ◌*◌, ◌/◌, ◌%◌, ◌<◌}
use native.Mathlib.Omega.{arith}
use lib.IntN.{ℤ, pos, ◌+ℤ◌, ◌*ℤ◌}
use Rattle.integers.specs.Division.{floor, modulo}
use Rattle.integers.proofs.Division.{floor_modulo, modulo_shift}
use Rattle.integers.proofs.Auto.{polys, ring! }
use Rattle.units.specs.Units.{turn, angle_per_part}
use Rattle.cosine.specs.Machine.Prepared.{cut, cuts}
use Rattle.cosine.proofs.Residues.{less_cuts}

-- a factor is reduced before it is multiplied
modulo_times : (k : ℕ) (n : ℤ) (d : ℕ) → 0 < d → k * modulo n d % d ≡ modulo (pos k *ℤ n) d
unfolding modulo
modulo_times k n d h = sym (ap (λ (z : ℤ). modulo z d) split ∙ modulo_shift (pos k *ℤ floor n d) (pos (k * modulo n d)) d h)
  where
    split : pos k *ℤ n ≡ pos d *ℤ (pos k *ℤ floor n d) +ℤ pos (k * modulo n d)
    split =
        ap (λ (z : ℤ). pos k *ℤ z) (sym (floor_modulo n d h))
        ∙ ring! (pos k ∷ pos d ∷ floor n d ∷ pos (modulo n d) ∷ []) (search polys depth 40) tt

pub parts_angle_is : (n : ℤ) (m : ℕ) → m ≡ modulo n turn
    → (angle_per_part * (m / cut) % cuts * cut + angle_per_part * (m % cut)) % turn ≡ modulo (pos angle_per_part *ℤ n) turn
parts_angle_is n m e =
    let h = angle_per_part * (m / cut) in
    let l = angle_per_part * (m % cut) in
    rest (angle_per_part * m) (h / cuts) (h % cuts * cut + l) (whole m ∙ less_cuts h l)
    ∙ ap (λ (k : ℕ). angle_per_part * k % turn) e ∙ modulo_times angle_per_part n turn (omega arith)
  where
    whole : (m : ℕ) → angle_per_part * m ≡ cut * (angle_per_part * (m / cut)) + angle_per_part * (m % cut)
    whole m = omega arith

    rest : (x k s : ℕ) → x ≡ turn * k + s → s % turn ≡ x % turn
    rest x k s f = omega arith
