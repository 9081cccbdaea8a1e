-- What the functions of list.rt ask of each other and answer. Assumes nothing.
use mathlib.Core.Path.{◌≡◌, refl, sym, ap, ap₂, ◌∙◌, subst}
use mathlib.Core.Bool.{Bool, true, ◌&&◌}
use mathlib.Core.List.{List}
use Prim.Native.Nat.{ℕ, ◌≤◌, ◌<◌}
use borrow.Author.Tests.{lt-ltb, le-ltb}
use lib.IntN.{ℤ}
use lib.ListN.{length}
use Rattle.units.specs.declared.Instant.{Instant}
use Rattle.units.specs.declared.Coordinates.{Coordinates}
use Rattle.units.specs.declared.Refusal.{Refusal}
use Rattle.units.specs.declared.Refusal.TheVariants.{NotUsable, TooFar}
use Rattle.limits.specs.declared.Term.{Term}
use Rattle.limits.specs.Wide.{good_for_wide, reaches, four_millennia, both_asked}
use Rattle.limits.proofs.Reach.{both_is, each_asked}
use Rattle.packed.specs.declared.table.Table.{Table as Terms}
use Rattle.packed.specs.Machine.Table.{table_blocks}
use Rattle.series.specs.Sums.{coordinates}
use Rattle.runs.specs.Runs.{run_numbers}
use Rattle.sunlist.specs.declared.Decision.{Decision}
use Rattle.std.specs.Prelude.{Err, Result}
use Rattle.sunlist.specs.Minute.{decide}
use Rattle.sunlist.specs.SunList.{minute, decision_at, first_failing, first_bad, window_flags, Outcome, numbers, of_minutes}
use Rattle.sunlist.specs.SunList.{first_unasked, of_blocks, answered, written}
use Rattle.sunlist.specs.Machine.Answers.{Tables, Answers}
use Rattle.sunlist.specs.Machine.Window.{asked_at}
use Rattle.sunlist.proofs.Failing.{same_failing, all_pass}

-- An outcome by another name.
pub answers_as : (o p : Outcome) (before : List ℕ) (r : Result ℕ Refusal) (after : List ℕ) → o ≡ p → Answers o before r after → Answers p before r after
answers_as o p before r after e a = (a.0 ∙ ap (answered (length before)) e, a.1 ∙ ap (written before) e)

-- ---- decide_at

module _ (planet earth : Terms) (t0 : Instant) where
  pub minute_reached : (n j : ℕ) (t : Instant) → Tables planet earth t0 n → j < n → t ≡ minute t0 j
      → (reaches (table_blocks planet) t.ms ≡ true) × (reaches (table_blocks earth) t.ms ≡ true)
  minute_reached n j t s l e =
      each_asked (table_blocks planet) (table_blocks earth) t.ms
      (subst (λ (t : Instant). both_asked four_millennia (table_blocks planet) (table_blocks earth) t.ms ≡ true) (sym e) (s.asked j l))

pub decided : (t0 : Instant) (k j : ℕ) (t : Instant) (planet earth : List (List Term)) (p e : Coordinates) (d : Decision) → t ≡ minute t0 j
    → p ≡ coordinates t.ms planet → e ≡ coordinates t.ms earth → d ≡ decide k p e → d ≡ decision_at planet earth t0 k j
unfolding decision_at
decided t0 k j t planet earth p e d h hp he hd =
    let m : t.ms ≡ (minute t0 j).ms = ap (λ (s : Instant). s.ms) h in
    hd ∙ ap₂ (decide k) (hp ∙ ap (λ (z : ℤ). coordinates z planet) m) (he ∙ ap (λ (z : ℤ). coordinates z earth) m)

-- ---- list_of

-- Of a window's minutes the first bad one is told; where there is none, the runs of their flags are the outcome.
module _ (at : ℕ → Decision) (n : ℕ) where
  pub bad_told : (r : Refusal) (out : List ℕ) → first_bad at 0 n < n → r ≡ NotUsable (first_bad at 0 n) → Answers (of_minutes at n) out (Err r) out
  unfolding of_minutes answered written
  bad_told r out h e = rw (lt-ltb (first_bad at 0 n) n h) (ap Err e, refl)

  pub numbers_are : (flags : List Bool) → n ≤ first_bad at 0 n → flags ≡ window_flags at 0 n → numbers (run_numbers flags) ≡ of_minutes at n
  unfolding of_minutes
  numbers_are flags h e = rw (le-ltb (first_bad at 0 n) n h, e)

-- What the search over the window answered, by whether both series are good for the wide range.
module _ (planet earth : List (List Term)) (t0 : Instant) (n k : ℕ) (wide : Bool) (w : wide ≡ (good_for_wide planet && good_for_wide earth)) where
  far_is : first_failing (asked_at t0 wide) 0 n ≡ first_unasked four_millennia planet earth t0 n
  far_is = same_failing _ _ (λ j. ap (λ (b : Bool). asked_at t0 b j) w ∙ both_is planet earth (minute t0 j).ms _ _ refl refl) 0 n

  pub far_told : (t : Instant) (out : List ℕ) → first_failing (asked_at t0 wide) 0 n < n → t ≡ minute t0 (first_failing (asked_at t0 wide) 0 n)
      → Answers (of_blocks four_millennia planet earth t0 n k) out (Err (TooFar t)) out
  unfolding of_blocks answered written
  far_told t out h e =
      let l : first_unasked four_millennia planet earth t0 n < n = subst (λ (m : ℕ). m < n) far_is h in
      rw (lt-ltb (first_unasked four_millennia planet earth t0 n) n l) (ap (λ (s : Instant). Err (TooFar s)) (e ∙ ap (minute t0) far_is), refl)

  module _ (h : n ≤ first_failing (asked_at t0 wide) 0 n) where
    past : n ≤ first_unasked four_millennia planet earth t0 n
    past = subst (λ (m : ℕ). n ≤ m) far_is h

    pub all_asked : (j : ℕ) → j < n → both_asked four_millennia planet earth (minute t0 j).ms ≡ true
    all_asked j l = all_pass _ n past j l

    pub minutes_told : of_minutes (decision_at planet earth t0 k) n ≡ of_blocks four_millennia planet earth t0 n k
    unfolding of_blocks
    minutes_told = rw (le-ltb (first_unasked four_millennia planet earth t0 n) n past)
