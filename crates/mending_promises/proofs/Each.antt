-- Each byte of a text, in words of lines: what the list says of it is right, and nothing else is. Assumes nothing.
use mathlib.Core.Path.{◌≡◌, refl, sym, ap, subst, ◌∙◌}
use mathlib.Core.Bool.{Bool, true, false}
use mathlib.Core.List.{List, [], ◌∷◌, ◌++◌}
use Prim.Native.Nat.{ℕ, ◌+◌}
use native.Mathlib.Omega.{arith}
use lib.ListN.{length}
use Rattle.integers.proofs.Tests.{by_cases, true_false}
use Rattle.series_lines.specs.Grammar.{feed}
use Rattle.mending.specs.Rule.{Fate, dropped, fate, begins, begun_after, changes}
use Rattle.mending_promises.specs.Bytes.{AllBlank, NothingLeft, first_line, later_line, Right}
use Rattle.mending_promises.specs.Made.{said}
use Rattle.mending_promises.proofs.Steps.{blank_no_feed, run_yes, to_feed, run_is, run_not, run_no}
use Rattle.mending_promises.proofs.Steps.{fate_run, fate_tab, fate_blank, fate_ends, fate_empty, fate_plain, after_feed, after_other}
use Rattle.mending_promises.proofs.Steps.{Step, in_run, other_tab, other_blank, ends_line, empty_line, plain_byte, step}
use Rattle.mending_promises.proofs.Listed.{begun_over, said_at}

-- ---- A line that is not begun.

-- Nothing was begun before, and all bytes since are blanks; or the last line feed has only blanks after it.
data Still (begun : Bool) (before : List ℕ) : Type 0 where
  from_start : begun ≡ false → AllBlank before → Still begun before
  from_feed : (lines blanks : List ℕ) → AllBlank blanks → before ≡ lines ++ (feed ∷ blanks) → Still begun before

still : (begun : Bool) (before rest : List ℕ) → begun_over begun before rest ≡ false → Still begun before
unfolding begun_over AllBlank
still begun [] rest e = from_start e tt
still begun (byte ∷ before) rest e =
    go (fate begun byte (before ++ rest)) (begun_after begun byte (before ++ rest)) (step begun byte (before ++ rest))
    (still (begun_after begun byte (before ++ rest)) before rest e)
  where
    further : (lines blanks : List ℕ) → AllBlank blanks → before ≡ lines ++ (feed ∷ blanks) → Still begun (byte ∷ before)
    further lines blanks a q = from_feed (byte ∷ lines) blanks a (ap (λ (t : List ℕ). byte ∷ t) q)

    at_feed : byte ≡ feed → AllBlank before → Still begun (byte ∷ before)
    at_feed q a = from_feed [] before a (ap (λ (b : ℕ). b ∷ before) q)

    go : (f : Fate) (n : Bool) → Step begun byte (before ++ rest) f n → Still n before → Still begun (byte ∷ before)
    go f n s (from_feed lines blanks a q) = further lines blanks a q
    go f n (in_run b r) (from_start z a) = from_start z (b, a)
    go f n (other_tab t r) (from_start z a) = true_false true refl z
    go f n (other_blank b t r) (from_start z a) = true_false true refl z
    go f n (ends_line q t) (from_start z a) = at_feed q a
    go f n (empty_line q t) (from_start z a) = at_feed q a
    go f n (plain_byte b q) (from_start z a) = true_false true refl z

pub nothing_left : (before rest : List ℕ) → begun_over false before rest ≡ false → NothingLeft before
nothing_left before rest e = go (still false before rest e)
  where
    go : Still false before → NothingLeft before
    go (from_start z a) = first_line a
    go (from_feed lines blanks a q) = subst NothingLeft (sym q) (later_line lines blanks a)

-- Blanks before a line feed begin nothing.
over_blanks : (begun : Bool) (blanks after : List ℕ) → AllBlank blanks → begun_over begun blanks (feed ∷ after) ≡ begun
unfolding begun_over AllBlank begins
over_blanks begun [] after a = refl
over_blanks begun (byte ∷ blanks) after a =
    let rest = blanks ++ (feed ∷ after) in
    let f = fate_run begun byte rest a.0 (run_yes blanks after a.1) in
    let n : begun_after begun byte rest ≡ begun = after_other begun byte rest dropped (blank_no_feed byte a.0) f in
    ap (λ (b : Bool). begun_over b blanks (feed ∷ after)) n ∙ over_blanks begun blanks after a.1

-- A line feed leaves nothing begun.
over_feed : (begun : Bool) (lines blanks rest : List ℕ) → begun_over begun (lines ++ (feed ∷ blanks)) rest ≡ begun_over false blanks rest
unfolding begun_over
over_feed begun [] blanks rest = ap (λ (b : Bool). begun_over b blanks rest) (after_feed begun feed (blanks ++ rest) refl)
over_feed begun (byte ∷ lines) blanks rest = over_feed (begun_after begun byte ((lines ++ (feed ∷ blanks)) ++ rest)) lines blanks rest

pub nothing_begun : (before after : List ℕ) → NothingLeft before → begun_over false before (feed ∷ after) ≡ false
nothing_begun before after (first_line a) = over_blanks false before after a
nothing_begun before after (later_line lines blanks a) = over_feed false lines blanks (feed ∷ after) ∙ over_blanks false blanks after a

-- ---- What is right for a byte.

module _ (before : List ℕ) (byte : ℕ) (after : List ℕ) where
  feed_here : byte ≡ feed → NothingLeft before → begun_over false before (byte ∷ after) ≡ false
  feed_here e n = ap (λ (b : ℕ). begun_over false before (b ∷ after)) e ∙ nothing_begun before after n

  right_fate : (f : Fate) (n : Bool) → Step (begun_over false before (byte ∷ after)) byte after f n → Right before byte after f
  right_fate f n (in_run b r) = Right.in_run b (run_is after r)
  right_fate f n (other_tab t r) = Right.other_tab t (run_not after r)
  right_fate f n (other_blank b t r) = Right.other_blank b t (run_not after r)
  right_fate f n (ends_line e t) = Right.other_feed e (λ l. true_false (begun_over false before (byte ∷ after)) t (feed_here e l))
  right_fate f n (empty_line e t) = Right.blank_line e (nothing_left before (byte ∷ after) t)
  right_fate f n (plain_byte b e) = Right.other_byte b e

  -- Whatever is right is the byte's fate.
  only_fate : (f : Fate) → Right before byte after f → f ≡ fate (begun_over false before (byte ∷ after)) byte after
  only_fate f (Right.in_run b r) = sym (fate_run (begun_over false before (byte ∷ after)) byte after b (to_feed after r))
  only_fate f (Right.blank_line e l) = sym (fate_empty (begun_over false before (byte ∷ after)) byte after e (feed_here e l))
  only_fate f (Right.other_tab t r) = sym (fate_tab (begun_over false before (byte ∷ after)) byte after t (run_no after r))
  only_fate f (Right.other_blank b t r) = sym (fate_blank (begun_over false before (byte ∷ after)) byte after b t (run_no after r))
  only_fate f (Right.other_feed e l) =
      by_cases (begun_over false before (byte ∷ after)) (λ t. sym (fate_ends (begun_over false before (byte ∷ after)) byte after e t))
      (λ t. absurd (l (nothing_left before (byte ∷ after) t)))
  only_fate f (Right.other_byte b e) = sym (fate_plain (begun_over false before (byte ∷ after)) byte after b e)

  said_here : (text : List ℕ) → text ≡ before ++ (byte ∷ after)
      → said (changes text) (length before) ≡ fate (begun_over false before (byte ∷ after)) byte after
  said_here text e =
      let z : length before ≡ 0 + length before = omega arith in
      ap (λ (t : List ℕ). said (changes t) (length before)) e
      ∙ ap (λ (k : ℕ). said (changes (before ++ (byte ∷ after))) k) z
      ∙ said_at false 0 before byte after

-- Wherever a text is parted, the list says of the byte there what is right for it.
pub each : (text before : List ℕ) (byte : ℕ) (after : List ℕ) → text ≡ before ++ (byte ∷ after)
    → Right before byte after (said (changes text) (length before))
each text before byte after e =
    let b = begun_over false before (byte ∷ after) in
    subst (Right before byte after) (sym (said_here before byte after text e))
    (right_fate before byte after (fate b byte after) (begun_after b byte after) (step b byte after))

-- Nothing else is right for it.
pub alone : (text before : List ℕ) (byte : ℕ) (after : List ℕ) (f : Fate) → text ≡ before ++ (byte ∷ after)
    → Right before byte after f → f ≡ said (changes text) (length before)
alone text before byte after f e r = only_fate before byte after f r ∙ sym (said_here before byte after text e)
