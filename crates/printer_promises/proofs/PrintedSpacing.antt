-- What is printed has single spaces, none leading. Assumes nothing.
use mathlib.Core.Path.{◌≡◌, refl, ap, ◌∙◌}
use mathlib.Core.Bool.{Bool, true, false}
use mathlib.Core.List.{List, [], ◌∷◌, ◌++◌, append_assoc}
use Prim.Native.Nat.{ℕ, ◌+◌, ◌/◌}
use native.Mathlib.Omega.{arith}
use lib.IntN.{nat_abs}
use lib.ListN.{length}
use Rattle.integers.specs.Signs.{negative}
use Rattle.units.specs.Units.{parts}
use Rattle.limits.specs.declared.Term.{Term}
use Rattle.series_lines.specs.Grammar.{feed, part_digits, sign, point, digits, decimal, count_bytes}
use Rattle.printer.specs.Printer.{last_digits, first_digit, rest_digits, plain_decimal, plain_count, plain_text}
use Rattle.printer_promises.specs.Plain.{Spaced, PlainText}
use Rattle.printer.specs.Machine.Writing.{line_text, lines_text, block_text}
use Rattle.printer.proofs.PieceByPiece.{joined}
use Rattle.printer.proofs.LinePieces.{line_pieces, signed}
use Rattle.printer.proofs.TableText.{lines_cons, lines_none, text_cons, text_none}

-- Bytes that are neither a space nor a line feed.
record Solid (b : ℕ) : Type 0 where
  no_space : b ≡ 32 → ⊥
  no_feed : b ≡ feed → ⊥

abbrev AllSolid : List ℕ → Type 0
AllSolid [] = Unit {0}
AllSolid (b ∷ bs) = Solid b × AllSolid bs

solid_append : (xs ys : List ℕ) → AllSolid xs → AllSolid ys → AllSolid (xs ++ ys)
solid_append [] ys a b = b
solid_append (x ∷ xs) ys a b = (a.0, solid_append xs ys a.1 b)

solid_digits : (ds : List ℕ) → AllSolid (digits ds)
unfolding digits
solid_digits [] = tt
solid_digits (d ∷ ds) = (record { no_space = λ e. omega (arith, e); no_feed = λ e. omega (arith, e) }, solid_digits ds)

solid_sign : (m : Bool) → AllSolid (sign m)
unfolding sign
solid_sign true = (record { no_space = λ e. omega (arith, e); no_feed = λ e. omega (arith, e) }, tt)
solid_sign false = tt

-- A decimal ends in such bytes: its whole digits, the point and the digits after it.
abbrev solid_tail : ℕ → List ℕ
solid_tail v = digits (rest_digits (v / parts)) ++ (point ∷ digits (last_digits part_digits v))

solid_end : (v : ℕ) → AllSolid (solid_tail v)
solid_end v =
    solid_append (digits (rest_digits (v / parts))) (point ∷ digits (last_digits part_digits v)) (solid_digits (rest_digits (v / parts)))
    (record { no_space = λ e. omega (arith, e); no_feed = λ e. omega (arith, e) }, solid_digits (last_digits part_digits v))

-- What may follow solid bytes.
abbrev Next : List ℕ → Type 0
Next ys = (q : ℕ) → Solid q → Spaced q ys

solid_then : (p x : ℕ) (xs ys : List ℕ) → Solid x → AllSolid xs → Next ys → Spaced p ((x ∷ xs) ++ ys)
unfolding Spaced
solid_then p x [] ys s a k = (λ e. absurd (s.no_space e), k x s)
solid_then p x (y ∷ xs) ys s a k = (λ e. absurd (s.no_space e), solid_then x y xs ys a.0 a.1 k)

digit_solid : (d : ℕ) → Solid (48 + d)
digit_solid d = record { no_space = λ e. omega (arith, e); no_feed = λ e. omega (arith, e) }

decimal_then : (p : ℕ) (minus : Bool) (v : ℕ) (ys : List ℕ) → Next ys → Spaced p (decimal (plain_decimal minus v) ++ ys)
unfolding decimal plain_decimal sign digits
decimal_then p true v ys k =
    solid_then p 45 ((48 + first_digit (v / parts)) ∷ solid_tail v) ys (solid_sign true).0 (digit_solid (first_digit (v / parts)), solid_end v) k
decimal_then p false v ys k = solid_then p (48 + first_digit (v / parts)) (solid_tail v) ys (digit_solid (first_digit (v / parts))) (solid_end v) k

space_then : (ys : List ℕ) → Spaced 32 ys → Next (32 ∷ ys)
unfolding Spaced
space_then ys h q s = (λ e. (s.no_space, s.no_feed), h)

feed_then : (p : ℕ) (ys : List ℕ) → Spaced feed ys → Spaced p (feed ∷ ys)
unfolding Spaced
feed_then p ys h = (λ e. absurd (omega (arith, e)), h)

-- A line, the lines of a block, a block, and the whole text.
line_then : (t : Term) (ys : List ℕ) → Spaced feed ys → Spaced feed (line_text t ++ ys)
unfolding joined
line_then t ys h =
    let a = decimal (plain_decimal (negative t.a) (nat_abs t.a)) in
    let b = decimal (plain_decimal false t.b) in
    let c = decimal (plain_decimal (negative t.c) (nat_abs t.c)) in
    let p = line_pieces t _ _ _ _ (signed t.a _ _ refl refl) (signed t.c _ _ refl refl) in
    let e : line_text t ++ ys ≡ a ++ (32 ∷ (b ++ (32 ∷ (c ++ (feed ∷ ys))))) = ap (λ (l : List ℕ). l ++ ys) p ∙ simp append_assoc in
    rw e
    (decimal_then feed (negative t.a) (nat_abs t.a) _
    (space_then _ (decimal_then 32 false t.b _
    (space_then _ (decimal_then 32 (negative t.c) (nat_abs t.c) _ (λ q s. feed_then q ys h))))))

lines_then : (ts : List Term) (ys : List ℕ) → Spaced feed ys → Spaced feed (lines_text ts ++ ys)
lines_then [] ys h = rw lines_none h
lines_then (t ∷ ts) ys h = rw (lines_cons t ts, append_assoc (line_text t) (lines_text ts) ys) (line_then t (lines_text ts ++ ys) (lines_then ts ys h))

block_then : (ts : List Term) (ys : List ℕ) → Spaced feed ys → Spaced feed (block_text ts ++ ys)
unfolding block_text count_bytes plain_count digits
block_then ts ys h =
    rw (append_assoc (digits (first_digit (length ts) ∷ rest_digits (length ts))) (feed ∷ lines_text ts) ys)
    (solid_then feed (48 + first_digit (length ts)) (digits (rest_digits (length ts))) (feed ∷ (lines_text ts ++ ys))
    (digit_solid (first_digit (length ts))) (solid_digits (rest_digits (length ts))) (λ q s. feed_then q (lines_text ts ++ ys) (lines_then ts ys h)))

pub text_spaced : (blocks : List (List Term)) → PlainText (plain_text blocks)
text_spaced [] = rw text_none (unfold Spaced in tt)
text_spaced (ts ∷ blocks) = rw (text_cons ts blocks) (block_then ts (plain_text blocks) (text_spaced blocks))
