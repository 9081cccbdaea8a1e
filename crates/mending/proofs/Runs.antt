-- A run of blanks goes as a whole: it is dropped before a line feed, and stays before any other byte and at the end of a text. Assumes nothing.
use mathlib.Core.Path.{◌≡◌, refl, sym, ap, subst, ◌∙◌}
use mathlib.Core.Bool.{Bool, true, false, not, cond}
use mathlib.Core.List.{List, [], ◌∷◌, ◌++◌, append_assoc, append-nil}
use Prim.Native.Nat.{ℕ, zero, suc, ◌+◌, ◌*◌, ◌-◌, ◌≤◌, ◌<◌}
use native.Mathlib.Nat.{add-zero}
use native.Mathlib.Numerals.{add-one}
use native.Mathlib.Omega.{arith}
use native.Mathlib.Decide.{dec_le}
use borrow.Author.Tests.{ne_eqb, eq-eqb, lt-ltb, le-ltb}
use lib.Dec.{leb, eqb}
use lib.ListN.{length, get_or, take, drop, length-append, length-drop, take-append-drop, drop_of_length-le}
use lib.Seq.{drop-cons, slice, slice_empty, take-suc, length-take-le, drop-append-le, length-slice}
use Rattle.std.specs.List.{position, position_or_len}
use Rattle.std.specs.Option.{unwrap_or}
use Rattle.std.proofs.lemmas.List.{get_or-drop}
use Rattle.std.proofs.lemmas.List.Sums.{prefix_len-le-length, prefix_len_passes}
use Rattle.std.proofs.lemmas.Bool.Decides.{nat_tests}
use Rattle.integers.proofs.Tests.{false_true}
use Rattle.series_lines.specs.Grammar.{feed, space}
use Rattle.mending.specs.Rule.{tab, carriage_return, blank, blank_to_feed, stays, dropped, spaced, fate, begins, begun_after, left, mended_from}
use Rattle.mending.specs.Rule.{Change, listed, changes_from, numbers}
use Rattle.mending.specs.Machine.Runs.{Blanks, none, more, Pending, spared, spared_run, tab_changes, drops}
use Rattle.mending.specs.Machine.Passes.{Plain, next_byte}

-- ---- one blank

not_feed : (byte : ℕ) → blank byte ≡ true → eqb byte feed ≡ false
unfolding blank
not_feed byte e = ne_eqb byte feed (λ q. false_true (subst (λ (k : ℕ). blank k ≡ true) q e))

through : (ws rest : List ℕ) → Blanks ws → blank_to_feed (ws ++ rest) ≡ blank_to_feed rest
unfolding blank_to_feed
through [] rest none = refl
through (w ∷ ws) rest (more e b) = rw (not_feed w e, e) (through ws rest b)

begins_by : (begun t : Bool) → begins (cond t spaced stays) begun ≡ true
unfolding begins
begins_by begun true = refl
begins_by begun false = refl

begins_spared : (begun : Bool) (w : ℕ) → begins (spared w) begun ≡ true
unfolding spared
begins_spared begun w = begins_by begun (eqb w tab)

module _ (begun : Bool) (w : ℕ) (after : List ℕ) (e : blank w ≡ true) where
  module _ (h : blank_to_feed after ≡ true) where
    dropped_fate : fate begun w after ≡ dropped
    unfolding fate
    dropped_fate = rw (not_feed w e, e, h)

    dropped_begun : begun_after begun w after ≡ begun
    unfolding begun_after begins
    dropped_begun = rw (not_feed w e, dropped_fate)

  module _ (h : blank_to_feed after ≡ false) where
    spared_fate : fate begun w after ≡ spared w
    unfolding fate spared
    spared_fate = rw (not_feed w e, e, h)

    spared_begun : begun_after begun w after ≡ true
    unfolding begun_after
    spared_begun = rw (not_feed w e, spared_fate) (begins_spared begun w)

-- ---- a run that is dropped

module _ (rest : List ℕ) (h : blank_to_feed rest ≡ true) where
  pub mended_dropped : (begun : Bool) (ws : List ℕ) → Blanks ws → mended_from begun (ws ++ rest) ≡ mended_from begun rest
  unfolding mended_from left
  mended_dropped begun [] none = refl
  mended_dropped begun (w ∷ ws) (more e b) =
      let k = through ws rest b ∙ h in rw (dropped_fate begun w (ws ++ rest) e k, dropped_begun begun w (ws ++ rest) e k) (mended_dropped begun ws b)

  pub changes_dropped : (begun : Bool) (at : ℕ) (ws : List ℕ) → Blanks ws
      → changes_from begun at (ws ++ rest) ≡ drops at (length ws) ++ changes_from begun (at + length ws) rest
  unfolding changes_from listed drops
  changes_dropped begun at [] none = rw (add-zero at)
  changes_dropped begun at (w ∷ ws) (more e b) =
      let k = through ws rest b ∙ h in
      let n : at + 1 + length ws ≡ at + suc (length ws) = omega arith in
      rw (dropped_fate begun w (ws ++ rest) e k, dropped_begun begun w (ws ++ rest) e k, changes_dropped begun (at + 1) ws b, n)

-- ---- a run that stays

-- A run that stays begins its line.
unfoldable begun_by : Bool → List ℕ → Bool
begun_by begun [] = begun
begun_by begun (w ∷ ws) = true

begun_by_true : (ws : List ℕ) → begun_by true ws ≡ true
unfolding begun_by
begun_by_true [] = refl
begun_by_true (w ∷ ws) = refl

module _ (rest : List ℕ) (h : blank_to_feed rest ≡ false) where
  mended_spared : (begun : Bool) (ws : List ℕ) → Blanks ws → mended_from begun (ws ++ rest) ≡ spared_run ws ++ mended_from (begun_by begun ws) rest
  unfolding mended_from spared_run begun_by
  mended_spared begun [] none = refl
  mended_spared begun (w ∷ ws) (more e b) =
      let k = through ws rest b ∙ h in
      rw (spared_fate begun w (ws ++ rest) e k, spared_begun begun w (ws ++ rest) e k, mended_spared true ws b, begun_by_true ws)
      (sym (append_assoc (left (spared w) w) (spared_run ws) (mended_from true rest)))

  changes_spared : (begun : Bool) (at : ℕ) (ws : List ℕ) → Blanks ws
      → changes_from begun at (ws ++ rest) ≡ tab_changes at ws ++ changes_from (begun_by begun ws) (at + length ws) rest
  unfolding changes_from tab_changes begun_by
  changes_spared begun at [] none = rw (add-zero at)
  changes_spared begun at (w ∷ ws) (more e b) =
      let k = through ws rest b ∙ h in
      let n : at + 1 + length ws ≡ at + suc (length ws) = omega arith in
      rw (spared_fate begun w (ws ++ rest) e k, spared_begun begun w (ws ++ rest) e k, changes_spared true (at + 1) ws b, begun_by_true ws, n)
      (sym (append_assoc (listed at (spared w)) (tab_changes (at + 1) ws) (changes_from true (at + suc (length ws)) rest)))

-- ---- the byte after a run

module _ (begun : Bool) (x : ℕ) (after : List ℕ) where
  feed_next : x ≡ feed → blank_to_feed (x ∷ after) ≡ true
  unfolding blank_to_feed
  feed_next e = rw (eq-eqb x feed e)

  mended_feed : x ≡ feed → mended_from begun (x ∷ after) ≡ left (cond begun stays dropped) x ++ mended_from false after
  unfolding mended_from fate begun_after
  mended_feed e = rw (eq-eqb x feed e)

  changes_feed : (at : ℕ) → x ≡ feed → changes_from begun at (x ∷ after) ≡ listed at (cond begun stays dropped) ++ changes_from false (at + 1) after
  unfolding changes_from fate begun_after
  changes_feed at e = rw (eq-eqb x feed e)

  module _ (f : x ≡ feed → ⊥) (b : blank x ≡ false) where
    other_next : blank_to_feed (x ∷ after) ≡ false
    unfolding blank_to_feed
    other_next = rw (ne_eqb x feed f, b)

    mended_other : mended_from begun (x ∷ after) ≡ x ∷ mended_from true after
    unfolding mended_from fate begun_after begins left
    mended_other = rw (ne_eqb x feed f, b)

    changes_other : (at : ℕ) → changes_from begun at (x ∷ after) ≡ changes_from true (at + 1) after
    unfolding changes_from fate begun_after begins listed
    changes_other at = rw (ne_eqb x feed f, b)

tabs_last : (at : ℕ) (ws : List ℕ) (x : ℕ) → tab_changes at (ws ++ (x ∷ [])) ≡ tab_changes at ws ++ listed (at + length ws) (spared x)
unfolding tab_changes
tabs_last at [] x = rw (add-zero at) (append-nil _)
tabs_last at (w ∷ ws) x =
    let n : at + 1 + length ws ≡ at + suc (length ws) = omega arith in
    rw (tabs_last (at + 1) ws x, n) (sym (append_assoc (listed at (spared w)) (tab_changes (at + 1) ws) _))

-- A byte above a space is neither a blank nor a line feed.
plain_blank : (x : ℕ) → space < x → blank x ≡ false
unfolding blank
plain_blank x h = rw (ne_eqb x tab (λ e. omega (arith, e)), ne_eqb x carriage_return (λ e. omega (arith, e)), ne_eqb x space (λ e. omega (arith, e)))

module _ (text : List ℕ) (i : ℕ) (h : i < length text) (g : space < get_or text i 0) where
  first : drop i text ≡ get_or text i 0 ∷ drop (i + 1) text
  first = drop-cons text i 0 h ∙ rw (add-one i)

  pub bytes_at_plain : mended_from true (drop i text) ≡ get_or text i 0 ∷ mended_from true (drop (i + 1) text)
  bytes_at_plain =
      ap (λ (l : List ℕ). mended_from true l) first
      ∙ mended_other true (get_or text i 0) (drop (i + 1) text) (λ e. omega (arith, e)) (plain_blank (get_or text i 0) g)

  pub changes_at_plain : changes_from true i (drop i text) ≡ changes_from true (i + 1) (drop (i + 1) text)
  changes_at_plain =
      ap (λ (l : List ℕ). changes_from true i l) first
      ∙ changes_other true (get_or text i 0) (drop (i + 1) text) (λ e. omega (arith, e)) (plain_blank (get_or text i 0) g) i

-- ---- in a text, from where the run begins

module _ (text : List ℕ) (from i : ℕ) (p : Pending text from i) where
  run_length : length (slice from i text) ≡ i - from
  run_length = length-slice from i text p.within

  past_run : from + length (slice from i text) ≡ i
  past_run = omega (arith, run_length, p.onward)

  parted : drop from text ≡ slice from i text ++ drop i text
  parted =
      let n = length-take-le i text p.within in
      ap (λ (l : List ℕ). drop from l) (sym (take-append-drop i text)) ∙ drop-append-le from (take i text) (drop i text) (omega (arith, n, p.onward))

  module _ (h : i < length text) where
    next_parted : drop from text ≡ slice from i text ++ (get_or text i 0 ∷ drop (i + 1) text)
    next_parted = parted ∙ ap (λ (l : List ℕ). slice from i text ++ l) (drop-cons text i 0 h ∙ rw (add-one i))

    pub bytes_at_feed : (begun : Bool) → get_or text i 0 ≡ feed
        → mended_from begun (drop from text) ≡ left (cond begun stays dropped) (get_or text i 0) ++ mended_from false (drop (i + 1) text)
    bytes_at_feed begun e =
        ap (λ (l : List ℕ). mended_from begun l) next_parted
        ∙ mended_dropped _ (feed_next begun (get_or text i 0) (drop (i + 1) text) e) begun (slice from i text) p.blanks
        ∙ mended_feed begun (get_or text i 0) (drop (i + 1) text) e

    pub changes_at_feed : (begun : Bool) → get_or text i 0 ≡ feed
        → changes_from begun from (drop from text)
        ≡ drops from (i - from) ++ (listed i (cond begun stays dropped) ++ changes_from false (i + 1) (drop (i + 1) text))
    changes_at_feed begun e =
        ap (λ (l : List ℕ). changes_from begun from l) next_parted
        ∙ changes_dropped _ (feed_next begun (get_or text i 0) (drop (i + 1) text) e) begun from (slice from i text) p.blanks
        ∙ rw (past_run, run_length) (ap (λ (l : List Change). drops from (i - from) ++ l) (changes_feed begun (get_or text i 0) (drop (i + 1) text) i e))

    module _ (f : get_or text i 0 ≡ feed → ⊥) (b : blank (get_or text i 0) ≡ false) where
      pub bytes_at_other : (begun : Bool)
          → mended_from begun (drop from text) ≡ spared_run (slice from i text) ++ (get_or text i 0 ∷ mended_from true (drop (i + 1) text))
      bytes_at_other begun =
          ap (λ (l : List ℕ). mended_from begun l) next_parted
          ∙ mended_spared _ (other_next begun (get_or text i 0) (drop (i + 1) text) f b) begun (slice from i text) p.blanks
          ∙ ap (λ (l : List ℕ). spared_run (slice from i text) ++ l) (mended_other _ (get_or text i 0) (drop (i + 1) text) f b)

      pub changes_at_other : (begun : Bool)
          → changes_from begun from (drop from text) ≡ tab_changes from (slice from i text) ++ changes_from true (i + 1) (drop (i + 1) text)
      changes_at_other begun =
          ap (λ (l : List ℕ). changes_from begun from l) next_parted
          ∙ changes_spared _ (other_next begun (get_or text i 0) (drop (i + 1) text) f b) begun from (slice from i text) p.blanks
          ∙ rw past_run (ap (λ (l : List Change). tab_changes from (slice from i text) ++ l) (changes_other _ (get_or text i 0) (drop (i + 1) text) f b i))

    -- A blank makes the run longer.
    run_more : slice from (i + 1) text ≡ slice from i text ++ (get_or text i 0 ∷ [])
    run_more =
        let n = length-take-le i text p.within in
        rw (add-one i) (ap (λ (l : List ℕ). drop from l) (take-suc text i 0 h) ∙ drop-append-le from (take i text) _ (omega (arith, n, p.onward)))

    pub pending_more : blank (get_or text i 0) ≡ true → Pending text from (i + 1)
    pending_more e = record {
      onward = omega (arith, p.onward);
      within = omega arith;
      blanks = rw run_more (longer (slice from i text) p.blanks);
    }
      where
        longer : (ws : List ℕ) → Blanks ws → Blanks (ws ++ (get_or text i 0 ∷ []))
        longer [] none = more e none
        longer (w ∷ ws) (more f b) = more f (longer ws b)

    pub tabs_more : length (tab_changes from (slice from (i + 1) text))
        ≡ length (tab_changes from (slice from i text)) + length (listed i (spared (get_or text i 0)))
    tabs_more =
        rw run_more
        (ap length (tabs_last from (slice from i text) (get_or text i 0)) ∙ length-append (tab_changes from (slice from i text)) _ ∙ rw past_run)

  -- At the end of the text.
  module _ (h : length text ≤ i) where
    run_last : drop from text ≡ slice from i text ++ []
    run_last = parted ∙ ap (λ (l : List ℕ). slice from i text ++ l) (drop_of_length-le text h)

    nothing_next : blank_to_feed [] ≡ false
    unfolding blank_to_feed
    nothing_next = refl

    pub bytes_at_end : (begun : Bool) → mended_from begun (drop from text) ≡ spared_run (slice from i text)
    unfolding mended_from
    bytes_at_end begun =
        ap (λ (l : List ℕ). mended_from begun l) run_last ∙ mended_spared [] nothing_next begun (slice from i text) p.blanks ∙ append-nil _

    pub changes_at_end : (begun : Bool) → changes_from begun from (drop from text) ≡ tab_changes from (slice from i text)
    unfolding changes_from
    changes_at_end begun =
        ap (λ (l : List ℕ). changes_from begun from l) run_last ∙ changes_spared [] nothing_next begun from (slice from i text) p.blanks ∙ append-nil _

-- No run is held back before byte i.
pub pending_none : (text : List ℕ) (i : ℕ) → i ≤ length text → Pending text i i
pending_none text i h = record { onward = omega arith; within = h; blanks = rw (slice_empty i text) none }

-- ---- bytes above a space

pub plain_none : (text : List ℕ) (i : ℕ) → i ≤ length text → Plain text i i
plain_none text i h = record {
  onward = omega arith;
  within = h;
  bytes = let e : i - i ≡ 0 = omega arith in rw e;
  changes = refl;
}

pub plain_more : (text : List ℕ) (i j : ℕ) → Plain text i j → j < length text → space < get_or text j 0 → Plain text i (j + 1)
plain_more text i j p h g =
    let n : j + 1 - i ≡ suc (j - i) = omega (arith, p.onward) in
    let at : i + (j - i) ≡ j = omega (arith, p.onward) in
    let k : j - i < length (drop i text) = omega (arith, length-drop i text, p.onward) in
    let one : take (suc (j - i)) (drop i text) ≡ take (j - i) (drop i text) ++ (get_or text j 0 ∷ []) =
    take-suc (drop i text) (j - i) 0 k ∙ rw (get_or-drop i text (j - i) 0, at) in
    record {
      onward = omega (arith, p.onward);
      within = omega arith;
      bytes =
          p.bytes
          ∙ ap (λ (l : List ℕ). take (j - i) (drop i text) ++ l) (bytes_at_plain text j h g)
          ∙ rw (n, one) (sym (append_assoc (take (j - i) (drop i text)) (get_or text j 0 ∷ []) _));
      changes = p.changes ∙ changes_at_plain text j h g;
    }

pub plain_bytes : (text : List ℕ) (i j : ℕ) → Plain text i j → length (mended_from true (drop i text)) ≡ j - i + length (mended_from true (drop j text))
plain_bytes text i j p =
    let n : length (take (j - i) (drop i text)) ≡ j - i = length-take-le (j - i) (drop i text) (omega (arith, length-drop i text, p.onward, p.within)) in
    ap length p.bytes ∙ length-append (take (j - i) (drop i text)) _ ∙ rw n

-- So many bytes above a space.
plain_first : (text : List ℕ) (i n : ℕ) → i + n ≤ length text → ((k : ℕ) → k < n → space < get_or text (i + k) 0) → Plain text i (i + n)
plain_first text i zero h f = rw (add-zero i) (plain_none text i (omega arith))
plain_first text i (suc n) h f =
    let p = plain_first text i n (omega arith) (λ k q. f k (omega arith)) in
    let e : i + n + 1 ≡ i + suc n = omega arith in
    subst (λ (j : ℕ). Plain text i j) e (plain_more text i (i + n) p (omega arith) (f n (omega arith)))

pub position_or : (p : ℕ → Bool) (xs : List ℕ) → unwrap_or (position p xs) (length xs) ≡ position_or_len p xs
position_or p xs = grind (arith, nat_tests, prefix_len-le-length)

pub plain_all : (text : List ℕ) (i n : ℕ) → i ≤ length text → n ≡ position_or_len (λ x. leb x space) (drop i text) → Plain text i (i + n)
plain_all text i n h e =
    plain_first text i n (omega (arith, e, prefix_len-le-length (λ x. not (leb x space)) (drop i text), length-drop i text))
    (λ k q. above k (prefix_len_passes (λ x. not (leb x space)) (drop i text) k 0 (omega (arith, e))))
  where
    above : (k : ℕ) → not (leb (get_or (drop i text) k 0) space) ≡ true → space < get_or text (i + k) 0
    above k t = grind (arith, nat_tests, get_or-drop)

-- ---- the byte that is looked at next

pub next_same : (from i : ℕ) → from ≤ i → next_byte from i ≡ i + 1
unfolding next_byte
next_same from i h = rw (le-ltb i from h)

pub next_further : (from i : ℕ) → i < from → next_byte from i ≡ from
unfolding next_byte
next_further from i h = rw (lt-ltb i from h)

pub next_above : (from i : ℕ) → i < next_byte from i
next_above from i = above (dec_le from i)
  where
    above : Dec (from ≤ i) → i < next_byte from i
    above (yes h) = rw (next_same from i h) (omega arith)
    above (no h) = rw (next_further from i (omega arith)) (omega arith)

-- ---- how long they are

one_by : (w : ℕ) (t : Bool) → ◌≡◌ {A = ℕ} (length (left (cond t spaced stays) w)) 1
unfolding left
one_by w true = refl
one_by w false = refl

one_byte : (w : ℕ) → ◌≡◌ {A = ℕ} (length (left (spared w) w)) 1
unfolding spared
one_byte w = one_by w (eqb w tab)

pub length_spared_run : (ws : List ℕ) → length (spared_run ws) ≡ length ws
unfolding spared_run
length_spared_run [] = refl
length_spared_run (w ∷ ws) = omega (arith, length-append (left (spared w) w) (spared_run ws), length_spared_run ws, one_byte w)

pub length_drops : (at n : ℕ) → length (drops at n) ≡ n
unfolding drops
length_drops at zero = refl
length_drops at (suc n) = ap suc (length_drops (at + 1) n)

pub numbers_append : (xs ys : List Change) → numbers (xs ++ ys) ≡ numbers xs ++ numbers ys
unfolding numbers
numbers_append [] ys = refl
numbers_append (x ∷ xs) ys = ap (λ (l : List ℕ). x.offset ∷ (x.kind ∷ l)) (numbers_append xs ys)

pub length_numbers : (xs : List Change) → length (numbers xs) ≡ 2 * length xs
unfolding numbers
length_numbers [] = refl
length_numbers (x ∷ xs) = let e = length_numbers xs in omega arith
