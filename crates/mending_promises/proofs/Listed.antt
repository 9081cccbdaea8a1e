-- The list of changes: its offsets rise, it says of each byte what becomes of it, and made to the text it gives the mended text. Assumes nothing.
use mathlib.Core.Path.{◌≡◌, refl, ap, ◌∙◌}
use mathlib.Core.Bool.{Bool, false}
use mathlib.Core.List.{List, [], ◌∷◌, ◌++◌}
use Prim.Native.Nat.{ℕ, suc, ◌+◌, ◌≤◌, ◌<◌}
use native.Mathlib.Nat.{add-zero}
use native.Mathlib.Omega.{arith}
use borrow.Author.Tests.{eq-eqb, ne_eqb}
use lib.ListN.{length}
use Rattle.mending.specs.Rule.{Fate, stays, dropped, spaced, fate, begun_after, left, mended_from, mended, Change, listed, changes_from, changes}
use Rattle.mending_promises.specs.Made.{said, made_of, made_from, made, Rising}

-- ---- The offsets rise.

lower : (at end : ℕ) (cs : List Change) → Rising (at + 1) end cs → Rising at end cs
unfolding Rising
lower at end [] r = tt
lower at end (c ∷ cs) r = (omega (arith, r.0), r.1, r.2, r.3)

rising_cons : (at end : ℕ) (f : Fate) (cs : List Change) → at < end → Rising (at + 1) end cs → Rising at end (listed at f ++ cs)
unfolding listed Rising
rising_cons at end stays cs h r = lower at end cs r
rising_cons at end dropped cs h r = (omega arith, h, omega arith, r)
rising_cons at end spaced cs h r = (omega arith, h, omega arith, r)

pub rising_from : (begun : Bool) (at end : ℕ) (bytes : List ℕ) → at + length bytes ≡ end → Rising at end (changes_from begun at bytes)
unfolding changes_from Rising
rising_from begun at end [] e = tt
rising_from begun at end (byte ∷ after) e =
    rising_cons at end (fate begun byte after) (changes_from (begun_after begun byte after) (at + 1) after) (omega arith)
    (rising_from (begun_after begun byte after) (at + 1) end after (omega arith))

-- Of an offset below all of them nothing is said.
pub said_below : (at end k : ℕ) (cs : List Change) → Rising at end cs → k < at → said cs k ≡ stays
unfolding Rising said
said_below at end k [] r h = refl
said_below at end k (c ∷ cs) r h =
    rw (ne_eqb c.offset k (λ e. omega (arith, e, r.0))) (said_below (c.offset + 1) end k cs r.3 (omega (arith, r.0)))

-- ---- What is said of the first byte, and of a later one.

said_here : (at end : ℕ) (f : Fate) (cs : List Change) → Rising (at + 1) end cs → said (listed at f ++ cs) at ≡ f
unfolding listed said
said_here at end stays cs r = said_below (at + 1) end at cs r (omega arith)
said_here at end dropped cs r = rw (eq-eqb at at refl)
said_here at end spaced cs r = rw (eq-eqb at at refl)

said_later : (at k : ℕ) (f : Fate) (cs : List Change) → at < k → said (listed at f ++ cs) k ≡ said cs k
unfolding listed said
said_later at k stays cs h = refl
said_later at k dropped cs h = rw (ne_eqb at k (λ e. omega (arith, e)))
said_later at k spaced cs h = rw (ne_eqb at k (λ e. omega (arith, e)))

module _ (begun : Bool) (at byte : ℕ) (after : List ℕ) where
  pub said_first : said (changes_from begun at (byte ∷ after)) at ≡ fate begun byte after
  unfolding changes_from
  said_first =
      said_here at (at + 1 + length after) (fate begun byte after) (changes_from (begun_after begun byte after) (at + 1) after)
      (rising_from (begun_after begun byte after) (at + 1) (at + 1 + length after) after refl)

  pub said_next : (k : ℕ) → at < k
      → said (changes_from begun at (byte ∷ after)) k ≡ said (changes_from (begun_after begun byte after) (at + 1) after) k
  unfolding changes_from
  said_next k h = said_later at k (fate begun byte after) (changes_from (begun_after begun byte after) (at + 1) after) h

-- ---- The changes made to the text.

made_left : (f : Fate) (byte : ℕ) → made_of f byte ≡ left f byte
unfolding made_of left
made_left stays byte = refl
made_left dropped byte = refl
made_left spaced byte = refl

-- A list that says the same from an offset on makes the same.
pub made_is : (cs : List Change) (begun : Bool) (at : ℕ) (bytes : List ℕ)
    → ((k : ℕ) → at ≤ k → said cs k ≡ said (changes_from begun at bytes) k)
    → made_from cs at bytes ≡ mended_from begun bytes
unfolding made_from mended_from
made_is cs begun at [] h = refl
made_is cs begun at (byte ∷ after) h =
    let f : said cs at ≡ fate begun byte after = h at (omega arith) ∙ said_first begun at byte after in
    let n = begun_after begun byte after in
    let r = made_is cs n (at + 1) after (λ k l. h k (omega (arith, l)) ∙ said_next begun at byte after k (omega (arith, l))) in
    ap (λ (g : Fate). made_of g byte ++ made_from cs (at + 1) after) f
    ∙ ap (λ (t : List ℕ). t ++ made_from cs (at + 1) after) (made_left (fate begun byte after) byte)
    ∙ ap (λ (t : List ℕ). left (fate begun byte after) byte ++ t) r

pub exact : (text : List ℕ) → made (changes text) text ≡ mended text
exact text = made_is (changes text) false 0 text (λ k l. refl)

pub rising : (text : List ℕ) → Rising 0 (length text) (changes text)
rising text = rising_from false 0 (length text) text (omega arith)

-- ---- What is said of a byte after some others.

-- Whether a line is begun after some bytes, by all that comes after them.
unfoldable pub begun_over : Bool → List ℕ → List ℕ → Bool
begun_over begun [] rest = begun
begun_over begun (byte ∷ bytes) rest = begun_over (begun_after begun byte (bytes ++ rest)) bytes rest

pub said_at : (begun : Bool) (at : ℕ) (before : List ℕ) (byte : ℕ) (after : List ℕ)
    → said (changes_from begun at (before ++ (byte ∷ after))) (at + length before) ≡ fate (begun_over begun before (byte ∷ after)) byte after
unfolding begun_over
said_at begun at [] byte after =
    ap (λ (k : ℕ). said (changes_from begun at (byte ∷ after)) k) (add-zero at) ∙ said_first begun at byte after
said_at begun at (b ∷ before) byte after =
    let rest = before ++ (byte ∷ after) in
    let n = begun_after begun b rest in
    let e : at + suc (length before) ≡ at + 1 + length before = omega arith in
    said_next begun at b rest (at + suc (length before)) (omega arith)
    ∙ ap (λ (k : ℕ). said (changes_from n (at + 1) rest) k) e
    ∙ said_at n (at + 1) before byte after
