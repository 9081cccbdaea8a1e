-- The counts of blocks without a heading in the output, and the count of a heading after them. Assumes nothing.
use Rattle.std.proofs.Common.{◌≡◌, ℕ, ◌+◌, ◌≤◌, List, ◌∷◌, ◌++◌, length, take, drop, replicate}
use Rattle.std.proofs.Common.{refl, sym, ap, ◌∙◌, append_assoc, length-append, arith, zero, suc}
use borrow.Rule.Slice.PartMut.{put_mid}
use Rattle.std.proofs.lemmas.Slice.{put_mid-paste}
use Rattle.std.proofs.lemmas.List.Edits.{sets, sets-eq, paste_all}
use Rattle.packed_numbers.specs.Numbers.{encode}
use Rattle.series_lines.proofs.WrittenTerm.{sets_append}
use Rattle.published_headings.specs.Judge.{zeros}

pub length_zeros : (n : ℕ) → length (zeros n) ≡ n
unfolding zeros
length_zeros zero = refl
length_zeros (suc n) = ap suc (length_zeros n)

zeros_repeat : (n : ℕ) → replicate n 0 ≡ zeros n
unfolding zeros
zeros_repeat zero = refl
zeros_repeat (suc n) = ap (λ (xs : List ℕ). 0 ∷ xs) (zeros_repeat n)

-- A part of the output that is filled with zeros.
pub zeros_filled : (at n k : ℕ) (out part : List ℕ) → at + n ≤ length out → k ≡ n → part ≡ replicate n 0
    → put_mid at k out part ≡ sets out at (zeros n)
zeros_filled at n k out part h e f =
    let l = length_zeros n in
    let fits : at + length (zeros n) ≤ length out = omega (arith, h, l) in
    put_mid-paste at k out part (zeros n) n (f ∙ zeros_repeat n) (sym e) (sym l)
    ∙ paste_all out at (zeros n) n (sym l)
    ∙ ap (λ (m : ℕ). take at out ++ (zeros n ++ drop (at + m) out)) (sym l)
    ∙ sym (append_assoc (take at out) (zeros n) (drop (at + length (zeros n)) out))
    ∙ sym (sets-eq (zeros n) out at fits)

-- Zeros and a count after them.
pub heading_length : (m n : ℕ) → length (zeros m ++ encode n) ≡ m + length (encode n)
heading_length m n = length-append (zeros m) (encode n) ∙ ap (λ (k : ℕ). k + length (encode n)) (length_zeros m)

pub heading_stored : (m n : ℕ) (out o₁ o₂ : List ℕ) (at i : ℕ) → o₁ ≡ sets out at (zeros m) → i ≡ at + m → o₂ ≡ sets o₁ i (encode n)
    → o₂ ≡ sets out at (zeros m ++ encode n)
heading_stored m n out o₁ o₂ at i e f g =
    g
    ∙ ap (λ (o : List ℕ). sets o i (encode n)) e
    ∙ ap (λ (k : ℕ). sets (sets out at (zeros m)) k (encode n)) (f ∙ ap (λ (k : ℕ). at + k) (sym (length_zeros m)))
    ∙ sym (sets_append (zeros m) (encode n) out at)
