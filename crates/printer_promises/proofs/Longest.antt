-- How long the text of a series within the limits can be: 53 bytes a term, 5 a count. Assumes nothing.
use mathlib.Core.Path.{◌≡◌, refl, ap}
use mathlib.Core.Bool.{Bool, false}
use mathlib.Core.List.{List, ◌∷◌}
use Prim.Native.Nat.{ℕ, suc, ◌+◌, ◌*◌, ◌/◌, ◌^◌, ◌≤◌, ◌<◌}
use native.Mathlib.Omega.{arith}
use lib.IntN.{nat_abs}
use lib.ListN.{length, length-append}
use Rattle.integers.specs.Signs.{negative}
use Rattle.units.specs.Units.{parts}
use Rattle.limits.specs.declared.Term.{Term}
use Rattle.limits.specs.declared.Tally.{Tally}
use Rattle.limits.specs.Allowed.{term_count}
use Rattle.limits.proofs.Passing.{GoodTerm}
use Rattle.limits.proofs.Terms as limits
use Rattle.limits.proofs.Series as judged
use Rattle.series_lines.specs.Grammar.{feed, part_digits, sign, count_bytes, decimal}
use Rattle.printer.specs.Printer.{plain_decimal, plain_count, plain_text, count_line_limit, term_line_limit}
use Rattle.printer.specs.Machine.Writing.{whole_text, line_text, lines_text, block_text}
use Rattle.printer.proofs.DigitsWritten.{whole_length}
use Rattle.printer.proofs.LinePieces.{decimal_size, sign_length, line_length, signed}
use Rattle.printer_promises.proofs.DigitsAndNumbers.{further_few}
use Rattle.printer.proofs.TableText.{lines_cons, lines_none, text_cons, text_none}

whole_short : (n v : ℕ) → v < 10 ^ suc n → length (whole_text v) ≤ suc n
whole_short n v h = omega (arith, whole_length v, further_few n v h)

decimal_short : (minus : Bool) (n v : ℕ) → v / parts < 10 ^ suc n → length (decimal (plain_decimal minus v)) ≤ length (sign minus) + suc n + (1 + part_digits)
decimal_short minus n v h = omega (arith, decimal_size minus v, whole_short n (v / parts) h)

line_short : (f : ℕ) (s : Tally) (t : Term) → GoodTerm f s t → length (line_text t) ≤ term_line_limit
unfolding sign
line_short f s t g =
    let a = decimal_short (negative t.a) 4 (nat_abs t.a) (omega (arith, g.good_a.small)) in
    let b = decimal_short false 0 t.b (omega (arith, g.good_b)) in
    let c = decimal_short (negative t.c) 5 (nat_abs t.c) (omega (arith, g.good_c.small)) in
    let sa = sign_length (negative t.a) in
    let sc = sign_length (negative t.c) in
    let l = line_length t _ _ _ _ (signed t.a _ _ refl refl) (signed t.c _ _ refl refl) _ _ _ refl refl refl in
    omega arith

lines_short : {f : ℕ} {s : Tally} {ts : List Term} → limits.GoodTerms f s ts → length (lines_text ts) ≤ term_line_limit * length ts
lines_short limits.good_none = rw lines_none (omega arith)
lines_short {f} {s} {ts = t ∷ ts} (limits.good_term g h) =
    rw (lines_cons t ts) (omega (arith, length-append (line_text t) (lines_text ts), line_short f s t g, lines_short h))

block_short : (k : ℕ) (s : Tally) (ts : List Term) → judged.GoodBlock k s ts → length (block_text ts) ≤ count_line_limit + term_line_limit * length ts
unfolding block_text count_bytes plain_count
block_short k s ts g =
    let w = whole_short 3 (length ts) (omega (arith, g.few)) in
    let e : count_bytes (plain_count (length ts)) ≡ whole_text (length ts) = unfold whole_text in refl in
    omega (arith, ap length e, length-append (count_bytes (plain_count (length ts))) (feed ∷ lines_text ts), lines_short g.terms)

pub text_short : {k : ℕ} {s : Tally} {bs : List (List Term)} → judged.GoodBlocks k s bs
    → length (plain_text bs) ≤ count_line_limit * length bs + term_line_limit * term_count bs
unfolding term_count
text_short judged.none = rw text_none (omega arith)
text_short {k} {s} {bs = ts ∷ bs} (judged.more g h) =
    rw (text_cons ts bs) (omega (arith, length-append (block_text ts) (plain_text bs), block_short k s ts g, text_short h))
