-- A text that the reader accepts is clean: it has no tab, and each line feed stands after a digit. So it comes out the same. Assumes nothing.
use mathlib.Core.Path.{◌≡◌, refl, sym, subst}
use mathlib.Core.Bool.{Bool, true, false}
use mathlib.Core.List.{List, [], ◌∷◌, ◌++◌, append_assoc}
use Prim.Native.Nat.{ℕ, zero, suc, ◌+◌, ◌<◌}
use native.Mathlib.Omega.{arith}
use Rattle.series_lines.specs.declared.Outcome.TheVariants.{Accepted}
use Rattle.series_lines.specs.Reader.{told}
use Rattle.text.specs.Reader.{whole}
use Rattle.series_lines.specs.Grammar.{feed, space, point, minus_sign, spaces, sign, digits, Decimal, decimal}
use Rattle.series_lines.specs.Grammar.{CountLine, count_bytes, TermLine, term_bytes}
use Rattle.series_lines.specs.Grammar.{Block, lines_bytes, blocks_bytes}
use Rattle.text_promises.proofs.Theorems.{accepted_text}
use Rattle.mending.specs.Rule.{mended, changes}
use Rattle.mending_promises.specs.Bytes.{Blank}
use Rattle.mending_promises.specs.Clean.{CleanText}
use Rattle.mending_promises.proofs.Steps.{blank_low}
use Rattle.mending_promises.proofs.Walks.{plain, plain_yes, plain_feed, Walk, walk_clean}
use Rattle.mending_promises.proofs.Mended.{same}

-- A walk after any byte.
abbrev Opens : List ℕ → Type 0
Opens bytes = (p : Bool) → Walk p bytes

-- A byte above the space; a space; a line feed after a plain byte.
high : (byte : ℕ) (bytes : List ℕ) → 32 < byte → Walk true bytes → Opens (byte ∷ bytes)
unfolding Walk
high byte bytes h w p =
    let b : Blank byte → ⊥ = λ x. omega (arith, h, blank_low byte x) in
    let n : byte ≡ feed → ⊥ = λ e. omega (arith, h, e) in
    (λ e. omega (arith, h, e), λ e. absurd (n e), rw (plain_yes byte b n) w)

one_space : (bytes : List ℕ) → Opens bytes → Opens (space ∷ bytes)
unfolding Walk
one_space bytes w p = (λ e. omega (arith, e), λ e. absurd (omega (arith, e)), w (plain space))

line_end : (bytes : List ℕ) → Walk false bytes → Walk true (feed ∷ bytes)
unfolding Walk
line_end bytes w = (λ e. omega (arith, e), λ e. refl, rw (plain_feed feed refl) w)

-- Some spaces, a minus or none, some digits.
spaces_open : (n : ℕ) (bytes : List ℕ) → Opens bytes → Opens (spaces n ++ bytes)
unfolding spaces
spaces_open zero bytes w = w
spaces_open (suc n) bytes w = one_space (spaces n ++ bytes) (spaces_open n bytes w)

sign_open : (m : Bool) (bytes : List ℕ) → Opens bytes → Opens (sign m ++ bytes)
unfolding sign
sign_open true bytes w = high minus_sign bytes (omega arith) (w true)
sign_open false bytes w = w

digits_walk : (ds bytes : List ℕ) → Walk true bytes → Walk true (digits ds ++ bytes)
unfolding digits
digits_walk [] bytes w = w
digits_walk (d ∷ ds) bytes w = high (48 + d) (digits ds ++ bytes) (omega arith) (digits_walk ds bytes w) true

digits_open : (d : ℕ) (ds bytes : List ℕ) → Walk true bytes → Opens (digits (d ∷ ds) ++ bytes)
unfolding digits
digits_open d ds bytes w = high (48 + d) (digits ds ++ bytes) (omega arith) (digits_walk ds bytes w)

-- A decimal, and a line of either kind, before bytes that may come after a digit.
joined : (xs ys bytes : List ℕ) → Opens (xs ++ (ys ++ bytes)) → Opens ((xs ++ ys) ++ bytes)
joined xs ys bytes w p = rw (append_assoc xs ys bytes) (w p)

decimal_open : (d : Decimal) (bytes : List ℕ) → Walk true bytes → Opens (decimal d ++ bytes)
unfolding decimal
decimal_open d bytes w =
    let parts = digits d.parts in
    let front = digits (d.first ∷ d.more) in
    let a : Walk true (point ∷ (parts ++ bytes)) = high point (parts ++ bytes) (omega arith) (digits_walk d.parts bytes w) true in
    let b : Opens ((front ++ (point ∷ parts)) ++ bytes) =
    joined front (point ∷ parts) bytes (digits_open d.first d.more (point ∷ (parts ++ bytes)) a)
    in
    joined (sign d.minus) (front ++ (point ∷ parts)) bytes (sign_open d.minus ((front ++ (point ∷ parts)) ++ bytes) b)

pub count_open : (l : CountLine) (bytes : List ℕ) → Walk true bytes → Opens (count_bytes l ++ bytes)
unfolding count_bytes
count_open l bytes w = digits_open l.first l.more bytes w

-- Spaces and what comes after them; a decimal and what comes after it.
spaced_open : (n : ℕ) (xs bytes : List ℕ) → Opens (xs ++ bytes) → Opens (((space ∷ spaces n) ++ xs) ++ bytes)
spaced_open n xs bytes w = one_space ((spaces n ++ xs) ++ bytes) (joined (spaces n) xs bytes (spaces_open n (xs ++ bytes) w))

valued_open : (d : Decimal) (xs bytes : List ℕ) → Opens (xs ++ bytes) → Opens ((decimal d ++ xs) ++ bytes)
valued_open d xs bytes w = joined (decimal d) xs bytes (decimal_open d (xs ++ bytes) (w true))

pub term_open : (l : TermLine) (bytes : List ℕ) → Walk true bytes → Opens (term_bytes l ++ bytes)
unfolding term_bytes
term_open l bytes w =
    let third = (space ∷ spaces l.after_b) ++ decimal l.c in
    let second = (space ∷ spaces l.after_a) ++ (decimal l.b ++ third) in
    let c : Opens (third ++ bytes) = spaced_open l.after_b (decimal l.c) bytes (decimal_open l.c bytes w) in
    let b : Opens (second ++ bytes) = spaced_open l.after_a (decimal l.b ++ third) bytes (valued_open l.b third bytes c) in
    joined (spaces l.lead) (decimal l.a ++ second) bytes
    (spaces_open l.lead ((decimal l.a ++ second) ++ bytes) (valued_open l.a second bytes b))

-- Lines, then blocks.
lines_walk : (ls : List TermLine) (bytes : List ℕ) → Walk false bytes → Walk false (lines_bytes ls ++ bytes)
unfolding lines_bytes
lines_walk [] bytes w = w
lines_walk (l ∷ ls) bytes w =
    rw (append_assoc (term_bytes l) (feed ∷ lines_bytes ls) bytes)
    (term_open l (feed ∷ (lines_bytes ls ++ bytes)) (line_end (lines_bytes ls ++ bytes) (lines_walk ls bytes w)) false)

pub blocks_walk : (ks : List Block) → Walk false (blocks_bytes ks)
unfolding blocks_bytes Walk
blocks_walk [] = tt
blocks_walk (k ∷ ks) =
    let rest = lines_bytes k.lines ++ blocks_bytes ks in
    count_open k.head (feed ∷ rest) (line_end rest (lines_walk k.lines (blocks_bytes ks) (blocks_walk ks))) false

-- The bytes of any blocks are clean.
pub blocks_clean : (ks : List Block) → CleanText (blocks_bytes ks)
blocks_clean ks = walk_clean (blocks_bytes ks) (blocks_walk ks)

pub accepted_clean : (text out : List ℕ) (n : ℕ) → told (whole text out).reader ≡ Accepted n → CleanText text
accepted_clean text out n e = let r = accepted_text text out n e in subst CleanText (sym r.is) (blocks_clean r.ks)

pub accepted_same : (text out : List ℕ) (n : ℕ) → told (whole text out).reader ≡ Accepted n → (mended text ≡ text) × (changes text ≡ [])
accepted_same text out n e = same text (accepted_clean text out n e)
