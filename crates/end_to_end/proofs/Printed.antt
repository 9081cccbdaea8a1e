-- Printed texts: what `print` writes is the text of the blocks, so reading it gives the packed bytes back. Assumes nothing.
use mathlib.Core.Path.{◌≡◌, refl, sym, ◌∙◌, subst}
use mathlib.Core.Bool.{Bool, true, false}
use mathlib.Core.List.{List}
use Prim.Native.Nat.{ℕ, ◌≤◌}
use native.Mathlib.Omega.{arith}
use borrow.Author.Tests.{leb-true, le-leb}
use lib.ListN.{length, take, replicate, length-replicate}
use lib.Seq.{sets}
use Rattle.units.specs.declared.Refusal.{Refusal}
use Rattle.packed_numbers.specs.Numbers.{AllBytes}
use Rattle.limits.specs.declared.Term.{Term}
use Rattle.packed.specs.Series.{Parsed, accepted, refused, parse}
use Rattle.text_promises.proofs.Series as series
use Rattle.std.specs.Prelude.{Err, Ok, Result}
use Rattle.printer.specs.Printer.{plain_text, text_fits, printed, printed_out}
use Rattle.printer_promises.proofs.Theorems.{print_read, same_text}
use Rattle.end_to_end.specs.EndToEnd.{PackedSeries, SeriesText, Prints, PrintedText}
use Rattle.end_to_end.proofs.Packed.{blocks_of}

-- The blocks of which a text was printed.
record PrintedFrom (x text : List ℕ) : Type 0 where
  blocks : List (List Term)
  parsed : parse x ≡ accepted blocks
  is : plain_text blocks ≡ text

printed_from : (x text : List ℕ) → Prints x text → PrintedFrom x text
unfolding printed printed_out text_fits
printed_from x text p = go (parse x) refl p.answer p.written
  where
    out : List ℕ
    out = p.out

    fit : (blocks : List (List Term)) (b : Bool) → text_fits blocks out ≡ b → parse x ≡ accepted blocks
        → printed (accepted blocks) out ≡ Ok (length text) → take (length text) (printed_out (accepted blocks) out) ≡ text → PrintedFrom x text
    fit blocks true h e a w =
        let l : length (plain_text blocks) ≡ length text = length_of (rw h at a) in
        let t : take (length text) (sets out 0 (plain_text blocks)) ≡ text = rw h at w in
        record { blocks = blocks; parsed = e; is = sym (series.front (plain_text blocks) out (leb-true _ _ h)) ∙ (rw (sym l) at t) }
      where
        length_of : {m n : ℕ} → ◌≡◌ {A = Result ℕ Refusal} (Ok m) (Ok n) → m ≡ n
        length_of q = cc
    fit blocks false h e a w = absurd (unlike (rw h at a))
      where
        unlike : {r : Refusal} {n : ℕ} → ◌≡◌ {A = Result ℕ Refusal} (Err r) (Ok n) → ⊥
        unlike q = let z : ◌≡◌ {A = ℕ} 0 1 = cc in omega arith

    go : (r : Parsed) → parse x ≡ r → printed r out ≡ Ok (length text) → take (length text) (printed_out r out) ≡ text → PrintedFrom x text
    go (accepted blocks) e a w = fit blocks (text_fits blocks out) refl e a w
    go (refused r) e a w = let z : ◌≡◌ {A = ℕ} 0 1 = cc in absurd (omega arith)

-- Into an output of the text's own length.
pub has_text : (x : List ℕ) → AllBytes x → PackedSeries x → (text : List ℕ) × Prints x text
unfolding printed printed_out text_fits
has_text x b s =
    let p = blocks_of x s in
    let text = plain_text p.blocks in
    let out : List ℕ = replicate (length text) 0 in
    let h : length text ≤ length out = omega (arith, length-replicate {A = ℕ} (length text) 0) in
    let f = le-leb (length text) (length out) h in
    (text, record { are_bytes = b; out = out; answer = rw (p.is, f); written = rw (p.is, f) (series.front text out h) })

-- Read again, with the packed bytes for output.
pub is_series_text : (text : List ℕ) → PrintedText text → SeriesText text
is_series_text text p =
    let x = p.packed in
    let o = printed_from x text p.prints in
    let r = (print_read x x o.blocks p.prints.are_bytes o.parsed (omega arith)).0 in
    subst SeriesText o.is (record { out = x; read = record { size = length x; is = r } })

pub same : (x y text : List ℕ) → Prints x text → Prints y text → x ≡ y
same x y text p q =
    let a = printed_from x text p in
    let b = printed_from y text q in
    same_text x y a.blocks b.blocks p.are_bytes q.are_bytes a.parsed b.parsed (a.is ∙ sym b.is)
