-- The answer for what a full buffer holds of the input is that for the whole input, and the text of a series has room. Assumes nothing.
use mathlib.Core.Path.{◌≡◌, refl, sym, ap, ◌∙◌}
use mathlib.Core.List.{List}
use Prim.Native.Nat.{ℕ, ◌≤◌, ◌<◌}
use native.Mathlib.Omega.{arith}
use borrow.Author.Tests.{le-leb}
use lib.ListN.{length, take}
use lib.Seq.{take-length}
use Rattle.units.specs.declared.Refusal.TheVariants.{NoRoom}
use Rattle.packed.specs.Series.{Parsed, accepted, refused, parse}
use Rattle.packed_promises.specs.Bounds.{early_limit}
use Rattle.packed_promises.proofs.Theorems.{refused_where, room_where, decided}
use Rattle.printer.specs.Printer.{plain_text, text_limit, text_fits, printed, printed_out}
use Rattle.std.specs.Prelude.{Err, Ok, Result}
use Rattle.units.specs.declared.Refusal.{Refusal}
use Rattle.printer_promises.proofs.Theorems.{longest}
use Rattle.unpacking.specs.Input.{Input, all, begins, Roomy, Answered}

-- No packed bytes are refused for want of room.
never_full : (x : List ℕ) (k : ℕ) → parse x ≡ refused (NoRoom k) → ⊥
never_full x k e = room_where (refused_where x (NoRoom k) e) refl

roomy : (x out : List ℕ) (k : ℕ) → text_limit ≤ length out → printed (parse x) out ≡ Err (NoRoom k) → ⊥
unfolding printed text_fits
roomy x out k h e = go (parse x) refl e
  where
    go : (p : Parsed) → parse x ≡ p → printed p out ≡ Err (NoRoom k) → ⊥
    go (accepted blocks) q e =
        let l = longest x blocks q in
        let f : length (plain_text blocks) ≤ length out = omega arith in
        let t : Ok (length (plain_text blocks)) ≡ Err (NoRoom k) = rw (le-leb (length (plain_text blocks)) (length out) f) at e in
        let z : ◌≡◌ {A = ℕ} 0 1 = cc in
        omega arith
    go (refused r) q e = let p : r ≡ NoRoom k = cc in never_full x k (q ∙ ap refused p)

-- Either way the bytes that are held decide.
same_answer : (n : ℕ) (buffer input : List ℕ) → early_limit < length buffer → Input n buffer input → parse (take n buffer) ≡ parse input
same_answer n buffer input l all = refl
same_answer n buffer input l (begins rest e) =
    let d = decided buffer rest l in
    ap parse (rw e (take-length buffer)) ∙ d.alone ∙ sym d.with_more

pub answered : (n : ℕ) (buffer before after input : List ℕ) (r : Result ℕ Refusal) → Roomy n buffer before → Input n buffer input
    → (r ≡ printed (parse (take n buffer)) before) × (after ≡ printed_out (parse (take n buffer)) before) → Answered input before r after
answered n buffer before after input r h i p =
    let e = same_answer n buffer input h.series i in
    record {
      answer = rw e at p.0;
      text = rw e at p.1;
      room = λ k q. roomy (take n buffer) before k h.text (sym p.0 ∙ q);
    }
