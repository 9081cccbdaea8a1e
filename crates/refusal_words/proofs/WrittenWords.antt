-- What the functions that write a refusal leave in the output is its line. Assumes nothing.
use mathlib.Core.Path.{◌≡◌}
use mathlib.Core.List.{append_assoc, List, [], ◌∷◌, ◌++◌}
use Prim.Native.Nat.{ℕ, ◌≤◌}
use native.Mathlib.Omega.{arith}
use lib.IntN.{ℤ}
use lib.Dec.{lit≤}
use lib.ListN.{length, length-append}
use Rattle.integers.specs.Signs.{negative}
use Rattle.units.specs.Refusals.{number, figure, whole}
use Rattle.units.specs.declared.Figure.{Figure}
use Rattle.units.specs.declared.Figure.TheVariants.{Count}
use Rattle.units.specs.declared.Refusal.{Refusal}
use Rattle.units.specs.declared.Refusal.TheVariants.{NoSuchDate, PastLimit, BadByte, OverLimit, TotalOverLimit, TooCoarse}
use Rattle.units.specs.declared.Refusal.TheVariants.{NoRoom, EndedEarly, ByteAfterEnd, NotShortest, NotUsable, BadWindow, BadHeading, BadNumber, TooFar}
use Rattle.decimals.specs.Texts.{text, line_feed}
use Rattle.decimals.specs.Decimals.{most_digits, decimal, signed_decimal}
use Rattle.decimals.proofs.Digits.{decimal_length, signed_length}
use Rattle.refusal_words.specs.Words.{words, refusal_text, words_most, refusal_most}

pub words_length : (r : Refusal) → length (words r) ≤ words_most
unfolding words text
words_length (NoSuchDate field) = lit≤ tt
words_length (PastLimit t) = lit≤ tt
words_length (BadByte at) = lit≤ tt
words_length (OverLimit at) = lit≤ tt
words_length (TotalOverLimit at) = lit≤ tt
words_length (TooCoarse at) = lit≤ tt
words_length (NoRoom n) = lit≤ tt
words_length (EndedEarly n) = lit≤ tt
words_length (ByteAfterEnd at) = lit≤ tt
words_length (NotShortest at) = lit≤ tt
words_length (NotUsable minute) = lit≤ tt
words_length BadWindow = lit≤ tt
words_length (BadHeading at) = lit≤ tt
words_length (BadNumber at) = lit≤ tt
words_length (TooFar t) = lit≤ tt

pub count_put : (f : Figure) (n : ℕ) (old new : List ℕ) → f ≡ Count n → new ≡ old ++ decimal most_digits n → new ≡ old ++ signed_decimal (whole f)
unfolding signed_decimal negative
count_put f n old new e h = rw e h

-- The six pieces of a line, one after the other.
pub refusal_put : (r : Refusal) (n : ℕ) (w : List ℕ) (f : ℤ) (old o1 o2 o3 o4 o5 o6 : List ℕ) → n ≡ number r → w ≡ words r → f ≡ figure r
    → o1 ≡ old ++ text "refused " → o2 ≡ o1 ++ decimal most_digits n → o3 ≡ o2 ++ text ", " → o4 ≡ o3 ++ w → o5 ≡ o4 ++ signed_decimal f
    → o6 ≡ o5 ++ line_feed ∷ [] → o6 ≡ old ++ refusal_text r
unfolding refusal_text
refusal_put r n w f old o1 o2 o3 o4 o5 o6 en ew ef p1 p2 p3 p4 p5 p6 =
    let line : o6 ≡ old ++ (text "refused " ++ (decimal most_digits n ++ (text ", " ++ (w ++ (signed_decimal f ++ line_feed ∷ []))))) =
    rw (p6, p5, p4, p3, p2, p1) (simp append_assoc) in
    rw (← en, ← ew, ← ef) line

-- No line is longer.
pub refusal_length : (r : Refusal) → length (refusal_text r) ≤ refusal_most
unfolding refusal_text text
refusal_length r =
    let d = decimal_length most_digits (number r) in
    let w = words_length r in
    let f = signed_length (figure r) in
    simp length-append (omega arith)
