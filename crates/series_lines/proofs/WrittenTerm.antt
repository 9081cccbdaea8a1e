-- Numbers stored one after the other, a decimal folded, and what the writer of a term answers. Assumes nothing.
use mathlib.Core.Path.{◌≡◌, refl, sym, ap, ◌∙◌}
use mathlib.Core.Bool.{true}
use mathlib.Core.List.{List, [], ◌∷◌, ◌++◌}
use Prim.Native.Nat.{ℕ, zero, suc, ◌+◌, ◌*◌, ◌-◌, ◌≤◌, ◌<◌, min}
use native.Mathlib.Nat.{add-zero, add_assoc}
use native.Mathlib.Omega.{arith}
use borrow.Author.Tests.{lt-ltb, le-leb, lt-leb}
use lib.ListN.{length, set, length-append}
use lib.Seq.{sets}
use Rattle.integers.specs.Signs.{sgn}
use Rattle.std.proofs.Common.{Ok, Err}
use Rattle.packed_numbers.specs.declared.NoRoom.{NoRoom}
use Rattle.packed_numbers.specs.Numbers.{folded, encode}
use Rattle.limits.specs.declared.Term.{Term}
use Rattle.packed.specs.Series.{pack_term}
use Rattle.series_lines.specs.Judge.{signed}
use Rattle.series_lines.specs.Reader.{fits, put_bytes}
use Rattle.series_lines.specs.Machine.Writer.{three_packed, put_bytes_answer}
use Rattle.packed_numbers.specs.Machine.Answers.{room_for, put_answer, put_out}

pub sets_append : (xs ys l : List ℕ) (i : ℕ) → sets l i (xs ++ ys) ≡ sets (sets l i xs) (i + length xs) ys
sets_append [] ys l i = rw (add-zero i)
sets_append (x ∷ xs) ys l i =
    let e : suc i + length xs ≡ i + suc (length xs) = omega arith in
    sets_append xs ys (set l i x) (suc i) ∙ ap (λ (k : ℕ). sets (sets (set l i x) (suc i) xs) k ys) e

pub sets_three : (x y z out : List ℕ) (at : ℕ)
    → sets out at (x ++ y ++ z) ≡ sets (sets (sets out at x) (at + length x) y) (at + length x + length y) z
sets_three x y z out at =
    sets_append (x ++ y) z out at ∙ (rw (sets_append x y out at, length-append x y, add_assoc at (length x) (length y)))

below : (v : ℕ) → 2 * v - 1 ≡ folded (sgn true v)
unfolding sgn folded
below zero = refl
below (suc n) = omega arith

pub folded_line : (minus value : ℕ) → 2 * value - min minus 1 ≡ folded (signed minus value)
unfolding signed sgn folded
folded_line zero value = omega arith
folded_line (suc m) value = rw (lt-ltb 0 (suc m) (omega arith), ← below value) (omega arith)

-- Three numbers, written one after the other.
module _ (a b c : ℕ) where
  pub length_three : length (three_packed a b c) ≡ length (encode a) + length (encode b) + length (encode c)
  length_three = simp length-append (omega arith)

  pub stored_three : (out o₁ o₂ o₃ : List ℕ) (at i j : ℕ) → o₁ ≡ sets out at (encode a) → i ≡ at + length (encode a)
      → o₂ ≡ sets o₁ i (encode b) → j ≡ i + length (encode b) → o₃ ≡ sets o₂ j (encode c) → o₃ ≡ sets out at (three_packed a b c)
  stored_three out o₁ o₂ o₃ at i j e₁ f₁ e₂ f₂ e₃ =
      e₃
      ∙ ap (λ (o : List ℕ). sets o j (encode c)) (e₂ ∙ ap (λ (o : List ℕ). sets o i (encode b)) e₁)
      ∙ (rw (f₂, f₁))
      ∙ sym (sets_three (encode a) (encode b) (encode c) out at)

-- The numbers of a term are those of its packed form.
pub term_packed : (t : Term) (a b c : ℕ) → a ≡ folded t.a → b ≡ t.b → c ≡ folded t.c → three_packed a b c ≡ pack_term t
unfolding pack_term
term_packed t a b c e f g = rw (e, f, g)

-- What the writer answers where there is no room for the bytes, and where there is.
module _ (bytes : List ℕ) (at : ℕ) (out : List ℕ) where
  pub put_full : (n : ℕ) (e : NoRoom) → n ≡ length bytes → (length out < at + n) × (e.needed ≡ n)
      → (Err e ≡ put_bytes_answer bytes at out) × (out ≡ put_bytes bytes at out)
  unfolding fits put_bytes
  put_full n e l h =
      let f = lt-leb (at + length bytes) (length out) (omega (arith, h.0, ap (λ (k : ℕ). at + k) l)) in
      let same : e.needed ≡ length bytes = h.1 ∙ l in
      (rw f (ap (λ (k : ℕ). Err (record { needed = k })) same), rw f)

  pub put_next : (n : ℕ) (after : List ℕ) → at + length bytes ≤ length out → n ≡ at + length bytes → after ≡ sets out at bytes
      → (Ok n ≡ put_bytes_answer bytes at out) × (after ≡ put_bytes bytes at out)
  unfolding fits put_bytes
  put_next n after h e w = let f = le-leb (at + length bytes) (length out) h in (rw (f, e), rw (f, w))

-- A number is put as its bytes are.
pub number_put : (v at : ℕ) (out : List ℕ) → (put_answer v at out ≡ put_bytes_answer (encode v) at out) × (put_out v at out ≡ put_bytes (encode v) at out)
unfolding put_answer put_out room_for fits put_bytes
number_put v at out = (refl, refl)
