-- A heading that is not refused, and the tally with the blocks before it that have none. Assumes nothing.
use mathlib.Core.Path.{◌≡◌, refl, ap, ◌∙◌}
use mathlib.Core.Bool.{true}
use Prim.Native.Nat.{ℕ, zero, suc, ◌+◌, ◌-◌, ◌≤◌, ◌<◌}
use native.Mathlib.Omega.{arith}
use borrow.Author.Tests.{leb-true, ltb-true}
use lib.Dec.{leb, ltb, eqb}
use Rattle.integers.proofs.Tests.{both}
use Rattle.units.specs.Units.{powers, block_count}
use Rattle.limits.specs.declared.Tally.{Tally}
use Rattle.limits.specs.Limits.{opened, count_fits}
use Rattle.limits.proofs.Passing.{count_passed, count_passes}
use Rattle.published_headings.specs.Judge.{theory_version, coordinate_count, block_of, in_order, skipped}

-- ---- Headings.

-- A heading in its order.
pub record InOrder (done coordinate power : ℕ) : Type 0 where
  pub some : 1 ≤ coordinate
  pub few : coordinate ≤ coordinate_count
  pub low : power < powers
  pub onward : done ≤ block_of coordinate power
  pub inside : block_of coordinate power < block_count

pub orderly : (done version coordinate power : ℕ) → in_order done version coordinate power ≡ true → InOrder done coordinate power
unfolding in_order block_of
orderly done version coordinate power e =
    let a = both (eqb version theory_version) _ e in
    let b = both (leb 1 coordinate) _ a.1 in
    let c = both (leb coordinate coordinate_count) _ b.1 in
    let d = both (ltb power powers) _ c.1 in
    let some = leb-true 1 coordinate b.0 in
    let few = leb-true coordinate coordinate_count c.0 in
    let low = ltb-true power powers d.0 in
    record { some = some; few = few; low = low; onward = leb-true _ _ d.1; inside = omega (arith, some, few, low) }

-- ---- Blocks without a heading.

pub no_terms_fit : (s : Tally) (n : ℕ) → count_fits s n ≡ true → count_fits s 0 ≡ true
no_terms_fit s n e = let g = count_passed s n e in count_passes s 0 (record { few = omega arith; fewer = omega (arith, g.fewer) })

pub opened_fits : (k n : ℕ) (s : Tally) → count_fits s n ≡ true → count_fits (opened k 0 s) n ≡ true
unfolding opened
opened_fits k n s e = let g = count_passed s n e in count_passes (opened k 0 s) n (record { few = g.few; fewer = omega (arith, g.fewer) })

pub skipped_fits : (k m n : ℕ) (s : Tally) → count_fits s n ≡ true → count_fits (skipped k m s) n ≡ true
unfolding skipped
skipped_fits k zero n s e = e
skipped_fits k (suc m) n s e = skipped_fits (k + 1) m n (opened k 0 s) (opened_fits k n s e)

one_skipped : (i m : ℕ) (s : Tally) → skipped i (suc m) s ≡ skipped (i + 1) m (opened i 0 s)
unfolding skipped
one_skipped i m s = refl

none_skipped : (i : ℕ) (s : Tally) → skipped i 0 s ≡ s
unfolding skipped
none_skipped i s = refl

pub skip_more : (i end : ℕ) (s : Tally) → i < end → skipped i (end - i) s ≡ skipped (i + 1) (end - (i + 1)) (opened i 0 s)
skip_more i end s h =
    let e : end - i ≡ suc (end - (i + 1)) = omega arith in
    ap (λ (m : ℕ). skipped i m s) e ∙ one_skipped i (end - (i + 1)) s

pub skip_end : (i end : ℕ) (s : Tally) → end ≤ i → skipped i (end - i) s ≡ s
skip_end i end s h = let e : end - i ≡ 0 = omega arith in ap (λ (m : ℕ). skipped i m s) e ∙ none_skipped i s
