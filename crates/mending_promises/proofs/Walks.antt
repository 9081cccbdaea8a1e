-- Clean texts, byte by byte: a walk that knows only whether the byte before is plain, and that it finds exactly the clean texts. Assumes nothing.
use mathlib.Core.Path.{◌≡◌, refl, ap}
use mathlib.Core.Bool.{Bool, true, false, cond}
use mathlib.Core.List.{List, [], ◌∷◌, ◌++◌}
use Prim.Native.Nat.{ℕ}
use native.Mathlib.Omega.{arith}
use borrow.Author.Tests.{ne_eqb}
use lib.Dec.{eqb}
use lib.ListN.{length, length-append}
use Rattle.integers.proofs.Tests.{true_false}
use Rattle.series_lines.specs.Grammar.{feed}
use Rattle.mending.specs.Rule.{tab, blank}
use Rattle.mending_promises.specs.Bytes.{Blank}
use Rattle.mending_promises.specs.Clean.{EndsPlain, CleanText}
use Rattle.mending_promises.proofs.Steps.{blank_yes, blank_no}

-- Neither a blank nor a line feed.
unfoldable pub plain : ℕ → Bool
plain byte = cond (blank byte) false (cond (eqb byte feed) false true)

pub plain_yes : (byte : ℕ) → (Blank byte → ⊥) → (byte ≡ feed → ⊥) → plain byte ≡ true
unfolding plain
plain_yes byte b n = rw (blank_no byte b, ne_eqb byte feed n)

pub plain_blank : (byte : ℕ) → Blank byte → plain byte ≡ false
unfolding plain
plain_blank byte b = rw (blank_yes byte b)

pub plain_feed : (byte : ℕ) → byte ≡ feed → plain byte ≡ false
unfolding plain blank
plain_feed byte e = rw e

plain_is : (byte : ℕ) → plain byte ≡ true → (Blank byte → ⊥) × (byte ≡ feed → ⊥)
plain_is byte e = (λ b. true_false (plain byte) e (plain_blank byte b), λ q. true_false (plain byte) e (plain_feed byte q))

-- Bytes after one that is plain or not: no tab, and a line feed only after a plain byte.
unfoldable pub Walk : Bool → List ℕ → Type 0
Walk p [] = Unit {0}
Walk p (byte ∷ bytes) = (byte ≡ tab → ⊥) × (byte ≡ feed → p ≡ true) × Walk (plain byte) bytes

-- ---- A walk is clean.

no_tab : (p : Bool) (text before after : List ℕ) → Walk p text → text ≡ before ++ (tab ∷ after) → ⊥
unfolding Walk
no_tab p [] [] after w e = omega (arith, ap length e)
no_tab p [] (b ∷ before) after w e = omega (arith, ap length e)
no_tab p (byte ∷ bytes) [] after w e = let t : byte ≡ tab = cc in w.0 t
no_tab p (byte ∷ bytes) (b ∷ before) after w e = let t : bytes ≡ before ++ (tab ∷ after) = cc in no_tab (plain byte) bytes before after w.2 t

-- Before a line feed stands nothing, after a plain byte, or bytes that end with one.
data Before (p : Bool) (before : List ℕ) : Type 0 where
  at_start : before ≡ [] → p ≡ true → Before p before
  inside : EndsPlain before → Before p before

longer : (b : ℕ) (before : List ℕ) → EndsPlain before → EndsPlain (b ∷ before)
longer b before e =
    record { start = b ∷ e.start; last = e.last; is = ap (λ (t : List ℕ). b ∷ t) e.is; no_blank = e.no_blank; no_feed = e.no_feed }

one_before : (p : Bool) (b : ℕ) (before : List ℕ) → Before (plain b) before → Before p (b ∷ before)
one_before p b before (at_start e t) =
    let n = plain_is b t in
    inside (record { start = []; last = b; is = ap (λ (x : List ℕ). b ∷ x) e; no_blank = n.0; no_feed = n.1 })
one_before p b before (inside e) = inside (longer b before e)

feeds : (p : Bool) (text before after : List ℕ) → Walk p text → text ≡ before ++ (feed ∷ after) → Before p before
unfolding Walk
feeds p [] [] after w e = absurd (omega (arith, ap length e))
feeds p [] (b ∷ before) after w e = absurd (omega (arith, ap length e))
feeds p (byte ∷ bytes) [] after w e = let t : byte ≡ feed = cc in at_start refl (w.1 t)
feeds p (byte ∷ bytes) (b ∷ before) after w e =
    let h : byte ≡ b = cc in
    let t : bytes ≡ before ++ (feed ∷ after) = cc in
    one_before p b before (feeds (plain b) bytes before after (rw h at w.2) t)

pub walk_clean : (text : List ℕ) → Walk false text → CleanText text
walk_clean text w =
    record { no_tab = λ before after e. no_tab false text before after w e; feeds = λ before after e. go before (feeds false text before after w e) }
  where
    go : (before : List ℕ) → Before false before → EndsPlain before
    go before (at_start e t) = true_false false t refl
    go before (inside e) = e

-- ---- A clean text is a walk.

no_end : (x : ℕ) (start rest : List ℕ) → rest ≡ start ++ (x ∷ []) → rest ≡ [] → ⊥
no_end x start rest e q = omega (arith, ap length e, ap length q, length-append start (x ∷ []))

ends_one : (b : ℕ) → EndsPlain (b ∷ []) → plain b ≡ true
ends_one b e = go e.start e.is
  where
    go : (start : List ℕ) → b ∷ [] ≡ start ++ (e.last ∷ []) → plain b ≡ true
    go [] q = let h : b ≡ e.last = cc in rw h (plain_yes e.last e.no_blank e.no_feed)
    go (x ∷ start) q = let h : [] ≡ start ++ (e.last ∷ []) = cc in absurd (no_end e.last start [] h refl)

ends_more : (a b : ℕ) (bytes : List ℕ) → EndsPlain (a ∷ (b ∷ bytes)) → EndsPlain (b ∷ bytes)
ends_more a b bytes e = go e.start e.is
  where
    go : (start : List ℕ) → a ∷ (b ∷ bytes) ≡ start ++ (e.last ∷ []) → EndsPlain (b ∷ bytes)
    go [] q = absurd (omega (arith, ap length q))
    go (x ∷ start) q =
        let h : b ∷ bytes ≡ start ++ (e.last ∷ []) = cc in
        record { start = start; last = e.last; is = h; no_blank = e.no_blank; no_feed = e.no_feed }

ends_step : (a : ℕ) (before : List ℕ) → EndsPlain (a ∷ before) → Before (plain a) before
ends_step a [] e = at_start refl (ends_one a e)
ends_step a (b ∷ before) e = inside (ends_more a b before e)

no_ends : EndsPlain [] → ⊥
no_ends e = no_end e.last e.start [] e.is refl

start_plain : (p : Bool) → Before p [] → p ≡ true
start_plain p (at_start e t) = t
start_plain p (inside e) = absurd (no_ends e)

before_step : (p : Bool) (a : ℕ) (before : List ℕ) → Before p (a ∷ before) → Before (plain a) before
before_step p a before (at_start e t) = absurd (omega (arith, ap length e))
before_step p a before (inside e) = ends_step a before e

to_walk : (p : Bool) (text : List ℕ) → ((before after : List ℕ) → text ≡ before ++ (tab ∷ after) → ⊥)
    → ((before after : List ℕ) → text ≡ before ++ (feed ∷ after) → Before p before)
    → Walk p text
unfolding Walk
to_walk p [] n f = tt
to_walk p (byte ∷ bytes) n f = (
  λ e. n [] bytes (ap (λ (b : ℕ). b ∷ bytes) e),
  λ e. start_plain p (f [] bytes (ap (λ (b : ℕ). b ∷ bytes) e)),
  to_walk (plain byte) bytes (λ before after e. n (byte ∷ before) after (ap (λ (t : List ℕ). byte ∷ t) e))
      (λ before after e. before_step p byte before (f (byte ∷ before) after (ap (λ (t : List ℕ). byte ∷ t) e))),
)

pub clean_walk : (text : List ℕ) → CleanText text → Walk false text
clean_walk text c = to_walk false text c.no_tab (λ before after e. inside (c.feeds before after e))
