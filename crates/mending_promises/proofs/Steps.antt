-- One byte: what the computed tests of the rule tell, and all ways that a byte can go. Assumes nothing.
use mathlib.Core.Path.{◌≡◌, refl, sym, ap, subst, ◌∙◌}
use mathlib.Core.Bool.{Bool, true, false}
use mathlib.Core.List.{List, [], ◌∷◌, ◌++◌}
use Prim.Native.Nat.{ℕ, ◌≤◌}
use native.Mathlib.Omega.{arith}
use borrow.Author.Tests.{eqb-true, eqb-false, ne_eqb}
use lib.Dec.{eqb}
use Rattle.integers.proofs.Tests.{by_cases, true_false}
use Rattle.series_lines.specs.Grammar.{feed, space}
use Rattle.mending.specs.Rule.{tab, carriage_return, blank, blank_to_feed, Fate, stays, dropped, spaced, fate, begins, begun_after}
use Rattle.mending_promises.specs.Bytes.{Blank, is_carriage_return, is_tab, is_space, AllBlank, RunToFeed}

-- ---- Blanks.

-- The test of a blank is true exactly of the three.
pub blank_low : (byte : ℕ) → Blank byte → byte ≤ 32
blank_low byte is_carriage_return = omega arith
blank_low byte is_tab = omega arith
blank_low byte is_space = omega arith

pub blank_no_feed : (byte : ℕ) → Blank byte → byte ≡ feed → ⊥
blank_no_feed byte is_carriage_return e = omega (arith, e)
blank_no_feed byte is_tab e = omega (arith, e)
blank_no_feed byte is_space e = omega (arith, e)

pub blank_yes : (byte : ℕ) → Blank byte → blank byte ≡ true
unfolding blank
blank_yes byte is_carriage_return = refl
blank_yes byte is_tab = refl
blank_yes byte is_space = refl

pub blank_is : (byte : ℕ) → blank byte ≡ true → Blank byte
unfolding blank
blank_is byte e =
    by_cases (eqb byte tab) (λ t. subst Blank (sym (eqb-true byte tab t)) is_tab)
    (λ t. by_cases (eqb byte carriage_return) (λ r. subst Blank (sym (eqb-true byte carriage_return r)) is_carriage_return)
    (λ r. let s : eqb byte space ≡ true = rw (t, r) at e in subst Blank (sym (eqb-true byte space s)) is_space))

pub blank_no : (byte : ℕ) → (Blank byte → ⊥) → blank byte ≡ false
blank_no byte n = by_cases (blank byte) (λ t. absurd (n (blank_is byte t))) (λ t. t)

pub blank_not : (byte : ℕ) → blank byte ≡ false → Blank byte → ⊥
blank_not byte e b = true_false (blank byte) (blank_yes byte b) e

-- ---- The run before a line feed.

pub feed_next : (after : List ℕ) → blank_to_feed (feed ∷ after) ≡ true
unfolding blank_to_feed
feed_next after = refl

pub blank_next : (byte : ℕ) (after : List ℕ) → Blank byte → blank_to_feed (byte ∷ after) ≡ blank_to_feed after
unfolding blank_to_feed
blank_next byte after b = rw (ne_eqb byte feed (blank_no_feed byte b), blank_yes byte b)

pub run_yes : (blanks rest : List ℕ) → AllBlank blanks → blank_to_feed (blanks ++ (feed ∷ rest)) ≡ true
unfolding AllBlank
run_yes [] rest a = feed_next rest
run_yes (byte ∷ blanks) rest a = blank_next byte (blanks ++ (feed ∷ rest)) a.0 ∙ run_yes blanks rest a.1

pub to_feed : (after : List ℕ) → RunToFeed after → blank_to_feed after ≡ true
to_feed after r = ap blank_to_feed r.is ∙ run_yes r.blanks r.rest r.blank

one_blank : (byte : ℕ) (after : List ℕ) → Blank byte → RunToFeed after → RunToFeed (byte ∷ after)
unfolding AllBlank
one_blank byte after b r =
    record { blanks = byte ∷ r.blanks; rest = r.rest; blank = (b, r.blank); is = ap (λ (t : List ℕ). byte ∷ t) r.is }

pub run_is : (after : List ℕ) → blank_to_feed after ≡ true → RunToFeed after
unfolding blank_to_feed AllBlank
run_is [] e = true_false false e refl
run_is (byte ∷ after) e = go (run_is after)
  where
    go : (blank_to_feed after ≡ true → RunToFeed after) → RunToFeed (byte ∷ after)
    go next =
        by_cases (eqb byte feed)
        (λ t. record { blanks = []; rest = after; blank = tt; is = ap (λ (b : ℕ). b ∷ after) (eqb-true byte feed t) })
        (λ t. by_cases (blank byte)
        (λ b. one_blank byte after (blank_is byte b) (next (rw (t, b) at e)))
        (λ b. true_false false (rw (t, b) at e) refl))

pub run_not : (after : List ℕ) → blank_to_feed after ≡ false → RunToFeed after → ⊥
run_not after e r = true_false (blank_to_feed after) (to_feed after r) e

pub run_no : (after : List ℕ) → (RunToFeed after → ⊥) → blank_to_feed after ≡ false
run_no after n = by_cases (blank_to_feed after) (λ t. absurd (n (run_is after t))) (λ t. t)

-- ---- What becomes of each byte.

module _ (begun : Bool) (byte : ℕ) (after : List ℕ) where
  pub fate_run : Blank byte → blank_to_feed after ≡ true → fate begun byte after ≡ dropped
  unfolding fate
  fate_run b r = rw (ne_eqb byte feed (blank_no_feed byte b), blank_yes byte b, r)

  pub fate_tab : byte ≡ tab → blank_to_feed after ≡ false → fate begun byte after ≡ spaced
  unfolding fate blank
  fate_tab e r = rw (e, r)

  pub fate_blank : Blank byte → (byte ≡ tab → ⊥) → blank_to_feed after ≡ false → fate begun byte after ≡ stays
  unfolding fate
  fate_blank b n r = rw (ne_eqb byte feed (blank_no_feed byte b), blank_yes byte b, r, ne_eqb byte tab n)

  pub fate_ends : byte ≡ feed → begun ≡ true → fate begun byte after ≡ stays
  unfolding fate
  fate_ends e t = rw (e, t)

  pub fate_empty : byte ≡ feed → begun ≡ false → fate begun byte after ≡ dropped
  unfolding fate
  fate_empty e t = rw (e, t)

  pub fate_plain : (Blank byte → ⊥) → (byte ≡ feed → ⊥) → fate begun byte after ≡ stays
  unfolding fate
  fate_plain b n = rw (ne_eqb byte feed n, blank_no byte b)

  -- A line feed ends its line; any other byte begins it unless it is dropped.
  pub after_feed : byte ≡ feed → begun_after begun byte after ≡ false
  unfolding begun_after
  after_feed e = rw e

  pub after_other : (f : Fate) → (byte ≡ feed → ⊥) → fate begun byte after ≡ f → begun_after begun byte after ≡ begins f begun
  unfolding begun_after
  after_other f n e = rw (ne_eqb byte feed n, e)

-- All ways that a byte can go: its fate, and whether its line is begun after it.
pub data Step (begun : Bool) (byte : ℕ) (after : List ℕ) : Fate → Bool → Type 0 where
  in_run : Blank byte → blank_to_feed after ≡ true → Step begun byte after dropped begun
  other_tab : byte ≡ tab → blank_to_feed after ≡ false → Step begun byte after spaced true
  other_blank : Blank byte → (byte ≡ tab → ⊥) → blank_to_feed after ≡ false → Step begun byte after stays true
  ends_line : byte ≡ feed → begun ≡ true → Step begun byte after stays false
  empty_line : byte ≡ feed → begun ≡ false → Step begun byte after dropped false
  plain_byte : (Blank byte → ⊥) → (byte ≡ feed → ⊥) → Step begun byte after stays true

pub step : (begun : Bool) (byte : ℕ) (after : List ℕ) → Step begun byte after (fate begun byte after) (begun_after begun byte after)
unfolding begins
step begun byte after =
    by_cases (eqb byte feed) (λ t. at_feed (eqb-true byte feed t))
    (λ t. other (eqb-false byte feed t))
  where
    at_feed : byte ≡ feed → Step begun byte after (fate begun byte after) (begun_after begun byte after)
    at_feed e =
        by_cases begun (λ t. rw (fate_ends begun byte after e t, after_feed begun byte after e) (ends_line e t))
        (λ t. rw (fate_empty begun byte after e t, after_feed begun byte after e) (empty_line e t))

    other : (byte ≡ feed → ⊥) → Step begun byte after (fate begun byte after) (begun_after begun byte after)
    other n =
        by_cases (blank byte)
        (λ t. let b = blank_is byte t in by_cases (blank_to_feed after)
        (λ r. let f = fate_run begun byte after b r in rw (after_other begun byte after dropped n f, f) (in_run b r))
        (λ r. by_cases (eqb byte tab)
        (λ s. let e = eqb-true byte tab s in let f = fate_tab begun byte after e r in rw (after_other begun byte after spaced n f, f) (other_tab e r))
        (λ s. let e = eqb-false byte tab s in let f = fate_blank begun byte after b e r in
        rw (after_other begun byte after stays n f, f) (other_blank b e r))))
        (λ t. let b = blank_not byte t in let f = fate_plain begun byte after b n in rw (after_other begun byte after stays n f, f) (plain_byte b n))
