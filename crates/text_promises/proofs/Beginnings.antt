-- The lines of a good beginning, run through the reader. Assumes nothing.
use mathlib.Core.Path.{◌≡◌, refl, sym, ap, ◌∙◌}
use mathlib.Core.List.{List, [], ◌∷◌, ◌++◌, append_assoc, append-nil}
use Prim.Native.Nat.{ℕ, suc, ◌+◌, ◌-◌, ◌≤◌}
use native.Mathlib.Omega.{arith}
use lib.ListN.{length, length-append}
use lib.Seq.{sets, length-sets}
use Rattle.units.specs.Units.{block_count}
use Rattle.limits.specs.declared.Tally.{Tally}
use Rattle.limits.specs.Limits.{factor, opened, added}
use Rattle.series_lines.specs.declared.Reader.{Reader}
use Rattle.series_lines.specs.Reader.{last_offset, next_spot}
use Rattle.text.specs.Reader.{begun, run}
use Rattle.series_lines.specs.Grammar.{feed, CountLine, count, count_bytes, TermLine, term_bytes, term_of_line, TermInLimits, TermsInLimits}
use Rattle.series_lines.specs.Grammar.{AnyLine, a_count, a_term, line_bytes, line_packed, any_bytes, any_packed}
use Rattle.text_promises.specs.Decided.{Beginning, empty, with_count, with_term}
use Rattle.series_lines.proofs.WrittenTerm.{sets_append}
use Rattle.text_promises.proofs.Verdicts.{sp, st}
use Rattle.text_promises.proofs.TakenTexts.{count_packed, term_packed, spot_term, spot_count}
use Rattle.text_promises.proofs.GoodTexts.{count_line, term_line}

-- With one line more.
pub bytes_more : (ls : List AnyLine) (l : AnyLine) (rest : List ℕ)
    → any_bytes (ls ++ (l ∷ [])) ++ rest ≡ any_bytes ls ++ (line_bytes l ++ (feed ∷ rest))
unfolding any_bytes
bytes_more [] l rest = append_assoc (line_bytes l) (feed ∷ []) rest
bytes_more (m ∷ ls) l rest =
    append_assoc (line_bytes m) (feed ∷ any_bytes (ls ++ (l ∷ []))) rest
    ∙ ap (λ (y : List ℕ). line_bytes m ++ (feed ∷ y)) (bytes_more ls l rest)
    ∙ sym (append_assoc (line_bytes m) (feed ∷ any_bytes ls) (line_bytes l ++ (feed ∷ rest)))

pub packed_more : (ls : List AnyLine) (l : AnyLine) → any_packed (ls ++ (l ∷ [])) ≡ any_packed ls ++ line_packed l
unfolding any_packed
packed_more [] l = append-nil (line_packed l)
packed_more (m ∷ ls) l =
    ap (λ (y : List ℕ). line_packed m ++ y) (packed_more ls l) ∙ sym (append_assoc (line_packed m) (any_packed ls) (line_packed l))

module _ (ls : List AnyLine) (l : AnyLine) where
  pub bytes_length : length (any_bytes (ls ++ (l ∷ []))) ≡ length (any_bytes ls) + length (line_bytes l) + 1
  bytes_length =
      omega (
        arith,
        ap length (sym (append-nil (any_bytes (ls ++ (l ∷ [])))) ∙ bytes_more ls l []),
        length-append (any_bytes ls) (line_bytes l ++ (feed ∷ [])),
        length-append (line_bytes l) (feed ∷ []),
      )

  pub packed_length : length (any_packed (ls ++ (l ∷ []))) ≡ length (any_packed ls) + length (line_packed l)
  packed_length = ap length (packed_more ls l) ∙ length-append (any_packed ls) (line_packed l)

  packed_sets : (out : List ℕ) → sets (sets out 0 (any_packed ls)) (length (any_packed ls)) (line_packed l) ≡ sets out 0 (any_packed (ls ++ (l ∷ [])))
  packed_sets out =
      let z : 0 + length (any_packed ls) ≡ length (any_packed ls) = omega arith in
      ap (λ (i : ℕ). sets (sets out 0 (any_packed ls)) i (line_packed l)) (sym z)
      ∙ sym (sets_append (any_packed ls) (line_packed l) out 0)
      ∙ ap (λ (x : List ℕ). sets out 0 x) (sym (packed_more ls l))

same_state : (k n : ℕ) (s : Tally) (rest : List ℕ) (a b w v : ℕ) (o p : List ℕ) → a ≡ b → w ≡ v → o ≡ p → run (st a w k n s) o rest ≡ run (st b v k n s) p rest
same_state k n s rest a b w v o p e f g = rw (e, f, g)

-- The reader after the lines of a good beginning.
abbrev pub after : List AnyLine → ℕ → ℕ → Tally → Reader
after ls k n s = st (length (any_bytes ls)) (length (any_packed ls)) k n s

pub runs : {ls : List AnyLine} {k n : ℕ} {s : Tally} → Beginning ls k n s → (out rest : List ℕ)
    → length (any_bytes ls) ≤ last_offset → length (any_packed ls) ≤ length out
    → run begun out (any_bytes ls ++ rest) ≡ run (after ls k n s) (sets out 0 (any_packed ls)) rest
runs empty out rest c h = unfold any_bytes any_packed next_spot in refl
runs (with_count {ls} {k} {s} l b i g f) out rest c h =
    let at = length (any_bytes ls) in
    let w = length (any_packed ls) in
    let o = sets out 0 (any_packed ls) in
    let x = bytes_length ls (a_count l) in
    let y = packed_length ls (a_count l) in
    let z = length-sets out 0 (any_packed ls) in
    let u = is_count l in
    let v = is_packed l in
    ap (λ (t : List ℕ). run begun out t) (bytes_more ls (a_count l) rest ∙ ap (λ (t : List ℕ). any_bytes ls ++ (t ++ (feed ∷ rest))) u)
    ∙ runs b out (count_bytes l ++ (feed ∷ rest)) (omega arith) (omega arith)
    ∙ ap (λ (j : ℕ). run (sp j at w k 0 s) o (count_bytes l ++ (feed ∷ rest))) (spot_count k (λ e. omega (arith, e)))
    ∙ count_line l at w k s o rest g i f (omega (arith, ap length u)) (omega (arith, ap length v))
    ∙ same_state (k + 1) (count l) (opened k (count l) s) rest _ _ _ _ _ _ (omega (arith, ap length u)) (omega (arith, ap length v))
    (ap (λ (t : List ℕ). sets o w t) (sym v) ∙ packed_sets ls (a_count l) out)
  where
    is_count : (l : CountLine) → line_bytes (a_count l) ≡ count_bytes l
    is_count l = unfold line_bytes in refl

    is_packed : (l : CountLine) → line_packed (a_count l) ≡ count_packed l
    is_packed l = unfold line_packed in refl
runs (with_term {ls} {k} {n} {s} l b g f) out rest c h =
    let at = length (any_bytes ls) in
    let w = length (any_packed ls) in
    let o = sets out 0 (any_packed ls) in
    let x = bytes_length ls (a_term l) in
    let y = packed_length ls (a_term l) in
    let z = length-sets out 0 (any_packed ls) in
    let u = is_term l in
    let v = is_packed l in
    let d : suc n - 1 ≡ n = omega arith in
    ap (λ (t : List ℕ). run begun out t) (bytes_more ls (a_term l) rest ∙ ap (λ (t : List ℕ). any_bytes ls ++ (t ++ (feed ∷ rest))) u)
    ∙ runs b out (term_bytes l ++ (feed ∷ rest)) (omega arith) (omega arith)
    ∙ ap (λ (j : ℕ). run (sp j at w k (suc n) s) o (term_bytes l ++ (feed ∷ rest))) (spot_term k n)
    ∙ term_line l at w k (suc n) s o rest g (one l f) (omega (arith, ap length u)) (omega (arith, ap length v))
    ∙ ap (λ (j : ℕ). run (st (at + length (term_bytes l) + 1) (w + length (term_packed l)) k j (added (factor (k - 1)) s (term_of_line l)))
    (sets o w (term_packed l)) rest) d
    ∙ same_state k n (added (factor (k - 1)) s (term_of_line l)) rest _ _ _ _ _ _ (omega (arith, ap length u)) (omega (arith, ap length v))
    (ap (λ (t : List ℕ). sets o w t) (sym v) ∙ packed_sets ls (a_term l) out)
  where
    is_term : (l : TermLine) → line_bytes (a_term l) ≡ term_bytes l
    is_term l = unfold line_bytes in refl

    is_packed : (l : TermLine) → line_packed (a_term l) ≡ term_packed l
    is_packed l = unfold line_packed in refl

    one : (l : TermLine) → TermInLimits (factor (k - 1)) s l → TermsInLimits (factor (k - 1)) s (l ∷ [])
    one l f = unfold TermsInLimits in (f, tt)

-- A beginning has no more counts than a series.
pub few : {ls : List AnyLine} {k n : ℕ} {s : Tally} → Beginning ls k n s → k ≤ block_count
few empty = omega arith
few (with_count l b i g f) = omega arith
few (with_term l b g f) = few b
