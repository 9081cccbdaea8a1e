-- What a call of `mend` answers and leaves keeps what is promised. Assumes nothing.
use mathlib.Core.Path.{◌≡◌, refl, sym, ap, subst, ◌∙◌}
use mathlib.Core.List.{List, [], ◌∷◌}
use Prim.Native.Nat.{ℕ, ◌+◌, ◌*◌, ◌/◌, ◌≤◌}
use native.Mathlib.Omega.{arith}
use borrow.Author.Tests.{leb-true, leb-false}
use lib.Dec.{leb}
use lib.ListN.{length, take, drop}
use lib.Seq.{sets, sets-eq, length-sets, take-append_seam, drop-append_seam}
use Rattle.integers.proofs.Tests.{by_cases}
use Rattle.units.specs.declared.Refusal.{Refusal}
use Rattle.series_lines.specs.Reader.{last_offset}
use Rattle.text.specs.Judge.{judgement}
use Rattle.text_promises.proofs.Judgement.{with_room, judgement_accepts, never_seven, never_more}
use Rattle.mending.specs.declared.Clean.{Clean}
use Rattle.std.specs.Prelude.{Err, Ok, Result}
use Rattle.mending.specs.Rule.{Change, mended, changes, numbers}
use Rattle.mending.specs.Answer.{text_fits, list_fits, mending, mending_out, mending_list}
use Rattle.mending.proofs.Runs.{length_numbers}
use Rattle.mending_promises.specs.Call.{Answered, RefusedFor, text_long, list_long, RefusedCall}
use Rattle.mending_promises.specs.Made.{read_off}
use Rattle.mending_promises.proofs.Theorems.{mends}
use Rattle.mending_promises.proofs.Lengths.{shorter}

-- What stands in a buffer after a run of stores from its beginning.
module _ (xs l : List ℕ) (h : length xs ≤ length l) where
  there : take (length xs) (sets l 0 xs) ≡ xs
  there = ap (λ (s : List ℕ). take (length xs) s) (sets-eq xs l 0 (omega (arith, h))) ∙ take-append_seam xs (drop (0 + length xs) l)

  rest : drop (length xs) (sets l 0 xs) ≡ drop (length xs) l
  rest =
      let z : 0 + length xs ≡ length xs = omega arith in
      ap (λ (s : List ℕ). drop (length xs) s) (sets-eq xs l 0 (omega (arith, h)))
      ∙ drop-append_seam xs (drop (0 + length xs) l)
      ∙ ap (λ (k : ℕ). drop k l) z

-- A list is read off as it was written.
read_back : (cs : List Change) → read_off (numbers cs) ≡ cs
unfolding read_off numbers
read_back [] = refl
read_back (c ∷ cs) = ap (λ (l : List Change). c ∷ l) (read_back cs)

no_answer : {A : Type 0} (f : Refusal) (c : Clean) → ◌≡◌ {A = Result Clean Refusal} (Err f) (Ok c) → A
no_answer f c e = let z : ◌≡◌ {A = ℕ} 0 1 = cc in absurd (omega arith)

no_refusal : {A : Type 0} (c : Clean) (f : Refusal) → ◌≡◌ {A = Result Clean Refusal} (Ok c) (Err f) → A
no_refusal c f e = let z : ◌≡◌ {A = ℕ} 0 1 = cc in absurd (omega arith)

same_clean : {c d : Clean} → ◌≡◌ {A = Result Clean Refusal} (Ok c) (Ok d) → c ≡ d
same_clean e = cc

same_refusal : {f g : Refusal} → ◌≡◌ {A = Result Clean Refusal} (Err f) (Err g) → f ≡ g
same_refusal e = cc

module _ (text out list : List ℕ) where
  abbrev clean : Clean
  clean = record { length = length (mended text); changes = length (changes text); verdict = judgement (mended text) }

  -- Where both fit.
  module _ (c : length text ≤ last_offset) (p : length (mended text) ≤ length out) (q : length (changes text) ≤ length list / 2) where
    two : 2 * length (changes text) ≡ length (numbers (changes text))
    two = sym (length_numbers (changes text))

    both : Answered text out list clean (sets out 0 (mended text)) (sets list 0 (numbers (changes text)))
    both =
        let n = numbers (changes text) in
        let l : length n ≤ length list = omega (arith, two) in
        let m : length (mended text) ≤ last_offset = omega (arith, shorter text) in
        record {
          text_there = there (mended text) out p;
          text_rest = rest (mended text) out p;
          text_room = (length-sets out 0 (mended text), p);
          list_there = rw two (there n list l);
          list_rest = rw two (rest n list l);
          list_room = (length-sets list 0 n, omega (arith, two));
          gives = rw (two, there n list l, there (mended text) out p, read_back (changes text)) (mends text).exact;
          are = rw (two, there n list l) (read_back (changes text));
          mends = mends text;
          verdict = λ buffer h. rw (there (mended text) out p) (with_room (mended text) buffer m h);
          never_seven = λ k e. never_seven (mended text) k m e;
          never_more = λ k e. never_more (mended text) k e;
          accepted = λ buffer k e h. rw (there (mended text) out p) (judgement_accepts (mended text) buffer k m e h);
        }

  -- Every call that is answered.
  pub answered : (c : Clean) → length text ≤ last_offset → mending text out list ≡ Ok c
      → Answered text out list c (mending_out text out list) (mending_list text out list)
  unfolding mending mending_out mending_list text_fits list_fits
  answered c h e =
      by_cases (leb (length (mended text)) (length out))
      (λ p. by_cases (leb (length (changes text)) (length list / 2))
      (λ q. rw (p, q)
      (subst (λ (d : Clean). Answered text out list d (sets out 0 (mended text)) (sets list 0 (numbers (changes text)))) (same_clean (rw (p, q) at e))
      (both h (leb-true (length (mended text)) (length out) p) (leb-true (length (changes text)) (length list / 2) q))))
      (λ q. no_answer _ c (rw (p, q) at e)))
      (λ p. no_answer _ c (rw p at e))

  -- Every call that is refused.
  pub refused : (f : Refusal) → mending text out list ≡ Err f
      → RefusedCall text out list f (mending_out text out list) (mending_list text out list)
  unfolding mending mending_out mending_list text_fits list_fits
  refused f e =
      by_cases (leb (length (mended text)) (length out))
      (λ p. by_cases (leb (length (changes text)) (length list / 2))
      (λ q. no_refusal _ f (rw (p, q) at e))
      (λ q. rw (p, q)
      (lent (same_refusal (rw (p, q) at e))
      (list_long (leb-true (length (mended text)) (length out) p) (leb-false (length (changes text)) (length list / 2) q)))))
      (λ p. rw p (lent (same_refusal (rw p at e)) (text_long (leb-false (length (mended text)) (length out) p))))
    where
      lent : {g : Refusal} → g ≡ f → RefusedFor text out list g → RefusedCall text out list f out list
      lent g w = record { why = subst (λ (x : Refusal). RefusedFor text out list x) g w; text_lent = refl; list_lent = refl }
