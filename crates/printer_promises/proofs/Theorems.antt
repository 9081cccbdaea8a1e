-- The printer's promises. Assumes nothing.
use mathlib.Core.Path.{◌≡◌, refl, sym, ap, ◌∙◌}
use mathlib.Core.List.{List, map}
use Prim.Native.Nat.{ℕ, ◌+◌, ◌≤◌}
use native.Mathlib.Omega.{arith}
use borrow.Author.Tests.{le-leb}
use lib.ListN.{length, take, replicate, length-replicate, length-map}
use lib.Seq.{sets}
use Rattle.packed_numbers.proofs.Shortest.{AllBytes}
use Rattle.limits.specs.declared.Term.{Term}
use Rattle.limits.specs.Limits.{no_tally}
use Rattle.packed.specs.Series.{accepted, parse, pack}
use Rattle.limits.proofs.Series.{allowed_good}
use Rattle.packed_promises.proofs.Theorems.{accepted_allowed, pack_parse, parse_pack}
use Rattle.series_lines.specs.declared.Outcome.TheVariants.{Accepted}
use Rattle.series_lines.specs.Reader.{told}
use Rattle.text.specs.Reader.{whole}
use Rattle.series_lines.specs.Grammar.{Block, blocks_bytes, blocks_of_lines, GoodText, InLimits}
use Rattle.text_promises.proofs.Theorems.{read_text, accepted_text}
use Rattle.text_promises.proofs.Series.{front, text_allowed, reads_packed}
use Rattle.std.specs.Prelude.{Ok}
use Rattle.printer.specs.Printer.{plain_block, plain_text, text_limit, text_fits, printed, printed_out}
use Rattle.printer_promises.specs.Plain.{PlainText}
use Rattle.printer_promises.proofs.Spacing.{text_plain}
use Rattle.printer_promises.proofs.PlainSeries.{blocks_plain, series_in, blocks_good, blocks_unique}
use Rattle.printer_promises.proofs.PrintedSpacing.{text_spaced}
use Rattle.printer_promises.proofs.Longest.{text_short}

-- The text of an accepted series is never longer than that.
pub longest : (x : List ℕ) (blocks : List (List Term)) → parse x ≡ accepted blocks → length (plain_text blocks) ≤ text_limit
longest x blocks e =
    let a = accepted_allowed x blocks e in
    omega (arith, text_short (allowed_good blocks a), a.eighteen, a.few)

-- The lines that are printed of an accepted series follow the grammar, stand within the limits and have the numbers of the series.
pub record Follows (ks : List Block) (blocks : List (List Term)) : Type 0 where
  pub good : GoodText ks
  pub limits : InLimits ks
  pub numbers : blocks_of_lines ks ≡ blocks

pub follows : (x : List ℕ) (blocks : List (List Term)) → parse x ≡ accepted blocks → Follows (map plain_block blocks) blocks
follows x blocks e =
    let a = accepted_allowed x blocks e in
    let g = allowed_good blocks a in
    record {
      good = record { eighteen = length-map blocks plain_block ∙ a.eighteen; good = blocks_good g };
      limits = series_in g;
      numbers = blocks_plain blocks;
    }

-- What is printed has single spaces, none leading.
pub prints_plain : (blocks : List (List Term)) → PlainText (plain_text blocks)
prints_plain = text_spaced

-- Reading the printed text of a packed series gives its bytes back.
pub print_read : (x out : List ℕ) (blocks : List (List Term)) → AllBytes x → parse x ≡ accepted blocks → length x ≤ length out
    → (told (whole (plain_text blocks) out).reader ≡ Accepted (length x)) × ((whole (plain_text blocks) out).out ≡ sets out 0 x)
unfolding plain_text
print_read x out blocks b e h =
    let f = follows x blocks e in
    let p : pack (blocks_of_lines (map plain_block blocks)) ≡ x = ap pack f.numbers ∙ sym (parse_pack x blocks b e) in
    let s = longest x blocks e in
    let r = read_text (map plain_block blocks) out f.good f.limits (omega (arith, s)) (rw p h) in
    (rw p at r.0, rw p at r.1)

-- A plain text, as the reader takes it, is printed back as it was, from the bytes that the reader gives for it.
pub read_print : (ks : List Block) (out : List ℕ) → GoodText ks → InLimits ks → PlainText (blocks_bytes ks) → length (blocks_bytes ks) ≤ length out
    → (printed (parse (pack (blocks_of_lines ks))) out ≡ Ok (length (blocks_bytes ks)))
    × (printed_out (parse (pack (blocks_of_lines ks))) out ≡ sets out 0 (blocks_bytes ks))
unfolding printed printed_out text_fits plain_text
read_print ks out g l p h =
    let a = text_allowed ks g l in
    let u = blocks_unique 0 no_tally ks g.good l (text_plain ks p) in
    rw (pack_parse (blocks_of_lines ks) a, u, le-leb (length (blocks_bytes ks)) (length out) h) (refl, refl)

-- So an accepted plain text is printed back as it was, from the bytes that the reader wrote.
pub accepted_printed : (text buffer out : List ℕ) (n : ℕ) → told (whole text buffer).reader ≡ Accepted n → PlainText text → length text ≤ length out
    → (printed (parse (take n (whole text buffer).out)) out ≡ Ok (length text))
    × (printed_out (parse (take n (whole text buffer).out)) out ≡ sets out 0 text)
accepted_printed text buffer out n e p h =
    let r = accepted_text text buffer n e in
    let b = reads_packed text buffer n r in
    let q = read_print r.ks out r.good r.limits (rw r.is at p) (rw r.is at h) in (
      ap (λ (s : List ℕ). printed (parse s) out) b ∙ (q.0 ∙ ap (λ (t : List ℕ). Ok (length t)) (sym r.is)),
      ap (λ (s : List ℕ). printed_out (parse s) out) b ∙ (q.1 ∙ ap (λ (t : List ℕ). sets out 0 t) (sym r.is)),
    )

-- Two packed series with the same plain text are equal.
pub same_text : (x y : List ℕ) (xs ys : List (List Term)) → AllBytes x → AllBytes y → parse x ≡ accepted xs → parse y ≡ accepted ys
    → plain_text xs ≡ plain_text ys → x ≡ y
same_text x y xs ys a b e f p =
    let out : List ℕ = replicate (length x + length y) 0 in
    let n = length-replicate {A = ℕ} (length x + length y) 0 in
    let hx : length x ≤ length out = omega (arith, n) in
    let hy : length y ≤ length out = omega (arith, n) in
    let rx = print_read x out xs a e hx in
    let ry = print_read y out ys b f hy in
    let tx : told (whole (plain_text ys) out).reader ≡ Accepted (length x) = rw p at rx.0 in
    let wx : (whole (plain_text ys) out).out ≡ sets out 0 x = rw p at rx.1 in
    let l : length x ≡ length y = same (sym tx ∙ ry.0) in
    sym (front x out hx) ∙ (ap (λ (s : List ℕ). take (length x) s) (sym wx ∙ ry.1) ∙ (ap (λ (k : ℕ). take k (sets out 0 y)) l ∙ front y out hy))
  where
    same : {m n : ℕ} → Accepted m ≡ Accepted n → m ≡ n
    same h = cc
