-- The numbers of a list two by two: what is left of them after i runs. Assumes nothing.
use mathlib.Core.Path.{◌≡◌, sym, ap, ◌∙◌}
use mathlib.Core.List.{List, ◌++◌}
use Prim.Native.Nat.{ℕ, ◌+◌, ◌*◌, ◌-◌, ◌≤◌, ◌<◌}
use native.Mathlib.Omega.{arith}
use lib.ListN.{length, length-append, take, get_or, get_or-append}
use lib.Seq.{get_or-append-add, get_or-take}
use Rattle.sunlist.specs.Demand.{first_minute, last_minute}

-- `rest` is the numbers of the runs from run i on.
pub record Left (numbers rest : List ℕ) (runs i : ℕ) : Type 0 where
  pub told : i ≤ runs
  pub size : length rest ≡ 2 * (runs - i)
  pub same : (j : ℕ) → j < length rest → get_or rest j 0 ≡ get_or numbers (2 * i + j) 0

pub all_left : (numbers rest : List ℕ) (runs : ℕ) → length rest ≡ 2 * runs → rest ≡ take (2 * runs) numbers → Left numbers rest runs 0
all_left numbers rest runs l e = record {
  told = omega arith;
  size = omega arith;
  same = λ j h.
      let z : j ≡ 2 * 0 + j = omega arith in
      ap (λ (s : List ℕ). get_or s j 0) e ∙ get_or-take (2 * runs) numbers j 0 (omega arith) ∙ ap (λ (k : ℕ). get_or numbers k 0) z;
}

module _ (numbers rest run next : List ℕ) (runs i : ℕ) (p : Left numbers rest runs i) (e : rest ≡ run ++ next) (l : length run ≡ 2) where
  sizes : length rest ≡ 2 + length next
  sizes = let s = ap length e ∙ length-append run next in omega arith

  number : (j : ℕ) → j < 2 → get_or run j 0 ≡ get_or numbers (2 * i + j) 0
  number j h =
      let s = sizes in
      sym (get_or-append run next 0 j (omega arith)) ∙ ap (λ (s : List ℕ). get_or s j 0) (sym e) ∙ p.same j (omega arith)

  pub one_more : i < runs
  one_more = let s = sizes in let z = p.size in omega arith

  pub first_is : get_or run 0 0 ≡ first_minute numbers i
  first_is = let z : 2 * i + 0 ≡ 2 * i = omega arith in number 0 (omega arith) ∙ ap (λ (k : ℕ). get_or numbers k 0) z

  pub last_is : get_or run 1 0 ≡ last_minute numbers i
  last_is = number 1 (omega arith)

  pub next_left : Left numbers next runs (i + 1)
  next_left =
      let s = sizes in
      let z = p.size in
      let m = one_more in
      record {
        told = omega arith;
        size = omega arith;
        same = λ j h.
            let k : length run + j ≡ 2 + j = omega arith in
            let n : 2 * i + (2 + j) ≡ 2 * (i + 1) + j = omega arith in
            sym (get_or-append-add run next j 0) ∙ ap (λ (s : List ℕ). get_or s (length run + j) 0) (sym e)
            ∙ ap (λ (k : ℕ). get_or rest k 0) k ∙ p.same (2 + j) (omega arith) ∙ ap (λ (k : ℕ). get_or numbers k 0) n;
      }
