-- A mended text is clean, and a clean text is left as it is. Assumes nothing.
use mathlib.Core.Path.{◌≡◌, refl, sym, ap, subst, ◌∙◌}
use mathlib.Core.Bool.{Bool, true, false}
use mathlib.Core.List.{List, [], ◌∷◌, ◌++◌}
use Prim.Native.Nat.{ℕ, ◌+◌}
use native.Mathlib.Omega.{arith}
use borrow.Author.Tests.{eqb-true}
use lib.Dec.{eqb}
use Rattle.integers.proofs.Tests.{by_cases, true_false}
use Rattle.series_lines.specs.Grammar.{feed, space}
use Rattle.mending.specs.Rule.{tab, blank, blank_to_feed, Fate, fate, begun_after, left, mended_from, mended}
use Rattle.mending.specs.Rule.{listed, changes_from, changes}
use Rattle.mending_promises.specs.Bytes.{Blank, is_tab, is_space}
use Rattle.mending_promises.specs.Clean.{CleanText}
use Rattle.mending_promises.proofs.Steps.{blank_no_feed, blank_is, feed_next, blank_next}
use Rattle.mending_promises.proofs.Steps.{Step, in_run, other_tab, other_blank, ends_line, empty_line, plain_byte, step}
use Rattle.mending_promises.proofs.Walks.{plain, plain_yes, plain_blank, plain_feed, Walk, walk_clean, clean_walk}

-- ---- A mended text is clean.

-- After a byte that is left and is not plain, no run leads to a line feed.
abbrev Apart : Bool → Bool → List ℕ → Type 0
Apart p begun rest = begun ≡ true → p ≡ false → blank_to_feed rest ≡ false

-- A byte that is left, and the rest.
walk_on : (p q : Bool) (byte : ℕ) (bytes : List ℕ) → (byte ≡ tab → ⊥) → (byte ≡ feed → p ≡ true) → plain byte ≡ q → Walk q bytes → Walk p (byte ∷ bytes)
unfolding Walk
walk_on p q byte bytes t f e w = (t, f, rw e w)

mended_walk : (p begun : Bool) (bytes : List ℕ) → Apart p begun bytes → Walk p (mended_from begun bytes)
unfolding mended_from Walk left
mended_walk p begun [] h = tt
mended_walk p begun (byte ∷ after) h =
    go (fate begun byte after) (begun_after begun byte after) (step begun byte after) (λ q. mended_walk q (begun_after begun byte after) after)
  where
    go : (f : Fate) (n : Bool) → Step begun byte after f n → ((q : Bool) → Apart q n after → Walk q (mended_from n after))
        → Walk p (left f byte ++ mended_from n after)
    go f n (in_run b r) next = next p (λ x y. sym (blank_next byte after b) ∙ h x y)
    go f n (other_tab t r) next =
        walk_on p false space (mended_from true after) (λ e. omega (arith, e)) (λ e. absurd (omega (arith, e))) (plain_blank space is_space)
        (next false (λ x y. r))
    go f n (other_blank b t r) next =
        walk_on p false byte (mended_from true after) t (λ e. absurd (blank_no_feed byte b e)) (plain_blank byte b) (next false (λ x y. r))
    go f n (ends_line e t) next =
        walk_on p false byte (mended_from false after) (λ x. omega (arith, e, x)) (λ x. after_plain) (plain_feed byte e)
        (next false (λ x y. true_false false x refl))
      where
        after_plain : p ≡ true
        after_plain =
            by_cases p (λ x. x)
            (λ x. true_false (blank_to_feed (byte ∷ after)) (ap (λ (b : ℕ). blank_to_feed (b ∷ after)) e ∙ feed_next after) (h t x))
    go f n (empty_line e t) next = next p (λ x y. true_false false x refl)
    go f n (plain_byte b e) next =
        walk_on p true byte (mended_from true after) (λ x. b (subst Blank (sym x) is_tab)) (λ x. absurd (e x)) (plain_yes byte b e)
        (next true (λ x y. true_false true refl y))

pub clean : (text : List ℕ) → CleanText (mended text)
clean text = walk_clean (mended text) (mended_walk false false text (λ x y. true_false false x refl))

-- ---- A clean text is left as it is.

-- After a byte that is not plain no run leads to a line feed.
no_run : (bytes : List ℕ) → Walk false bytes → blank_to_feed bytes ≡ false
unfolding Walk blank_to_feed
no_run [] w = refl
no_run (byte ∷ after) w =
    let next : plain byte ≡ false → blank_to_feed after ≡ false = λ e. no_run after (rw e at w.2) in
    by_cases (eqb byte feed) (λ t. true_false false (w.1 (eqb-true byte feed t)) refl)
    (λ t. by_cases (blank byte) (λ b. rw (t, b) (next (plain_blank byte (blank_is byte b)))) (λ b. rw (t, b)))

-- Nothing of it is changed.
abbrev Kept : Bool → ℕ → List ℕ → Type 0
Kept begun at bytes = (mended_from begun bytes ≡ bytes) × (changes_from begun at bytes ≡ [])

same_from : (p begun : Bool) (at : ℕ) (bytes : List ℕ) → Walk p bytes → (p ≡ true → begun ≡ true) → Kept begun at bytes
unfolding mended_from changes_from Walk left listed
same_from p begun at [] w h = (refl, refl)
same_from p begun at (byte ∷ after) w h =
    go (fate begun byte after) (begun_after begun byte after) (step begun byte after)
    (same_from (plain byte) (begun_after begun byte after) (at + 1) after w.2)
  where
    go : (f : Fate) (n : Bool) → Step begun byte after f n → ((plain byte ≡ true → n ≡ true) → Kept n (at + 1) after)
        → (left f byte ++ mended_from n after ≡ byte ∷ after) × (listed at f ++ changes_from n (at + 1) after ≡ [])
    go f n (in_run b r) next = true_false (blank_to_feed after) r (no_run after (rw (plain_blank byte b) at w.2))
    go f n (other_tab t r) next = absurd (w.0 t)
    go f n (other_blank b t r) next = let k = next (λ x. refl) in (ap (λ (t : List ℕ). byte ∷ t) k.0, k.1)
    go f n (ends_line e t) next =
        let k = next (λ x. true_false (plain byte) x (plain_feed byte e)) in (ap (λ (t : List ℕ). byte ∷ t) k.0, k.1)
    go f n (empty_line e t) next = true_false begun (h (w.1 e)) t
    go f n (plain_byte b e) next = let k = next (λ x. refl) in (ap (λ (t : List ℕ). byte ∷ t) k.0, k.1)

pub same : (text : List ℕ) → CleanText text → (mended text ≡ text) × (changes text ≡ [])
same text c = same_from false false 0 text (clean_walk text c) (λ e. true_false false e refl)

-- So mending twice is mending once.
pub twice : (text : List ℕ) → (mended (mended text) ≡ mended text) × (changes (mended text) ≡ [])
twice text = same (mended text) (clean text)
