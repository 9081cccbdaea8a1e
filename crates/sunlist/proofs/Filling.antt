-- The flags of a window, minute by minute: those filled and those left are all, up to the first bad minute. Assumes nothing.
use mathlib.Core.Path.{◌≡◌, refl, sym, ap, ◌∙◌, subst}
use mathlib.Core.Bool.{Bool, true, false}
use mathlib.Core.List.{List, [], ◌∷◌, ◌++◌, append_assoc, append-nil}
use Prim.Native.Nat.{ℕ, suc, ◌+◌, ◌-◌, ◌≤◌, ◌<◌}
use native.Mathlib.Omega.{arith}
use native.Mathlib.Numerals.{add-one}
use lib.ListN.{length, take, set}
use lib.Seq.{take-suc-set, take_all}
use Rattle.units.specs.declared.Refusal.TheVariants.{NotUsable}
use Rattle.sunlist.specs.declared.Figures.{Figures}
use Rattle.sunlist.specs.declared.Decision.{Decision}
use Rattle.sunlist.specs.declared.Decision.TheVariants.{Listed, Clear, Unusable}
use Rattle.sunlist.specs.SunList.{good, flag_of, first_bad, window_flags}
use Rattle.sunlist.proofs.Failing.{Searched, searched_none, searched_more, searched_found, searched_all}

-- What each decision is.
pub listed_then : (d : Decision) (f : Figures) → d ≡ Listed f → (good d ≡ true) × (true ≡ flag_of d)
unfolding good
listed_then d f e = rw e (refl, refl)

pub clear_then : (d : Decision) (f : Figures) → d ≡ Clear f → (good d ≡ true) × (false ≡ flag_of d)
unfolding good
clear_then d f e = rw e (refl, refl)

pub unusable_then : (d : Decision) → d ≡ Unusable → good d ≡ false
unfolding good
unusable_then d e = rw e

-- Before minute j of n.
pub record Filling (at : ℕ → Decision) (n j : ℕ) (flags : List Bool) : Type 0 where
  pub search : Searched (λ (i : ℕ). good (at i)) n j
  pub flags_left : take j flags ++ window_flags at j (n - j) ≡ window_flags at 0 n

pub filling_none : (at : ℕ → Decision) (n : ℕ) (flags : List Bool) → Filling at n 0 flags
filling_none at n flags = record { search = searched_none _ n; flags_left = ap (window_flags at 0) (all_left n) }
  where
    all_left : (n : ℕ) → n - 0 ≡ n
    all_left n = omega arith

-- One minute's step of the definition.
flags_step : (at : ℕ → Decision) (j m k : ℕ) → m ≡ suc k → window_flags at j m ≡ flag_of (at j) ∷ window_flags at (suc j) k
unfolding window_flags
flags_step at j m k e = rw e

module _ (at : ℕ → Decision) (n j : ℕ) (flags : List Bool) (i : Filling at n j flags) where
  pub filling_more : (f : Bool) → length flags ≡ n → j < n → good (at j) ≡ true → f ≡ flag_of (at j) → Filling at n (j + 1) (set flags j f)
  filling_more f s l g e = subst (λ (m : ℕ). Filling at n m (set flags j f)) (sym (add-one j)) (record {
    search = searched_more _ n j i.search l g;
    flags_left =
        ap (λ (s : List Bool). s ++ window_flags at (suc j) (n - suc j))
        (take-suc-set flags j f (omega arith) ∙ ap (λ (x : Bool). take j flags ++ (x ∷ [])) e)
        ∙ append_assoc (take j flags) (flag_of (at j) ∷ []) (window_flags at (suc j) (n - suc j))
        ∙ ap (λ (s : List Bool). take j flags ++ s) (sym (flags_step at j (n - j) (n - suc j) (omega arith))) ∙ i.flags_left;
  })

  pub filling_bad : j < n → good (at j) ≡ false → (first_bad at 0 n < n) × (NotUsable j ≡ NotUsable (first_bad at 0 n))
  filling_bad l g = let e = searched_found _ n j i.search l g in (omega arith, ap NotUsable e)

  pub filling_all : length flags ≡ n → n ≤ j → (n ≤ first_bad at 0 n) × (flags ≡ window_flags at 0 n)
  unfolding window_flags
  filling_all s h = (
    let e = searched_all _ n j i.search h in omega arith,
    sym (append-nil flags) ∙ ap (λ (s : List Bool). s ++ []) (sym (take_all j flags (omega arith)))
        ∙ subst (λ (m : ℕ). take j flags ++ window_flags at j m ≡ window_flags at 0 n) (none n j h) i.flags_left,
  )
    where
      none : (n j : ℕ) → n ≤ j → n - j ≡ 0
      none n j h = omega arith
