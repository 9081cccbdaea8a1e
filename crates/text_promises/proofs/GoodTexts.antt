-- A text that follows the grammar within the limits, and has room, is taken. Assumes nothing.
use mathlib.Core.Path.{◌≡◌, refl, sym, ap, ◌∙◌}
use mathlib.Core.Bool.{true}
use mathlib.Core.List.{List, [], ◌∷◌, ◌++◌, append_assoc}
use Prim.Native.Nat.{ℕ, suc, ◌+◌, ◌-◌, ◌≤◌, ◌<◌}
use native.Mathlib.Nat.{add-zero}
use native.Mathlib.Omega.{arith}
use lib.ListN.{length, length-append}
use lib.Seq.{sets, length-sets}
use Rattle.units.specs.Units.{block_count}
use Rattle.packed_numbers.specs.Numbers.{encode}
use Rattle.limits.specs.declared.Tally.{Tally}
use Rattle.limits.specs.Limits.{opened, added, summed, after_block, factor, count_fits}
use Rattle.packed.specs.Series.{pack_term, pack_terms, pack_block, pack}
use Rattle.series_lines.specs.declared.Line.{Line}
use Rattle.series_lines.specs.declared.Reader.{Reader}
use Rattle.series_lines.specs.Lexer.{fresh, lexes}
use Rattle.series_lines.specs.Reader.{last_offset}
use Rattle.text.specs.Reader.{Run, run}
use Rattle.series_lines.specs.Grammar.{CountLine, count, count_bytes, GoodCount, TermLine, term_bytes, GoodTerm, term_of_line}
use Rattle.series_lines.specs.Grammar.{Block, lines_bytes, blocks_bytes, terms_of_lines, blocks_of_lines, AllGood, GoodBlocks}
use Rattle.series_lines.specs.Grammar.{TermsInLimits, BlocksInLimits}
use Rattle.series_lines.proofs.WrittenTerm.{sets_append, sets_three}
use Rattle.text_promises.proofs.GoodLines.{put, line_of_term, count_run, term_run}
use Rattle.text_promises.proofs.Lines.{moved, Going, line_run, feed_run}
use Rattle.text_promises.proofs.Verdicts.{sp, st, count_verdict, term_verdict, count_zero, term_zero, is_whole}
use Rattle.text_promises.proofs.TakenTexts.{count_packed, term_packed, after_count, after_term, spot_term, spot_count, less, length_terms}

-- A line and its line feed, from the beginning of the line.
module _ (spot at w k n : ℕ) (s : Tally) (out xs ys : List ℕ) (L : Line)
    (is : lexes (fresh spot) xs ≡ L) (good : L.spot ≡ 31 → ⊥) (going : L.spot ≡ 30 → ⊥) (counts : at + length xs < last_offset) where
  to_feed : run (sp spot at w k n s) out (xs ++ (10 ∷ ys)) ≡ run (moved (sp spot at w k n s) L (length xs)) out (10 ∷ ys)
  to_feed =
      line_run xs (sp spot at w k n s) out (10 ∷ ys) refl refl (omega arith) (λ e. good (ap (λ (l : Line). l.spot) (sym is) ∙ e))
      ∙ ap (λ (l : Line). run (moved (sp spot at w k n s) l (length xs)) out (10 ∷ ys)) is

  ready : Going (moved (sp spot at w k n s) L (length xs))
  ready = record { status = refl; counts = λ e. omega (arith, e); inside = going }

-- A term line.
pub term_line : (t : TermLine) (at w k n : ℕ) (s : Tally) (out ys : List ℕ) → GoodTerm t → TermsInLimits (factor (k - 1)) s (t ∷ [])
    → at + length (term_bytes t) < last_offset
    → w + length (term_packed t) ≤ length out
    → run (sp 0 at w k n s) out (term_bytes t ++ (10 ∷ ys))
    ≡ run (after_term (at + length (term_bytes t) + 1) w k n s t) (sets out w (term_packed t)) ys
unfolding TermsInLimits
term_line t at w k n s out ys g l c h =
    let m = length (term_bytes t) in
    let r = moved (sp 0 at w k n s) (line_of_term t) m in
    let v = term_verdict 0 at w k m s n t in
    let e = term_run t g in
    to_feed 0 at w k n s out (term_bytes t) ys (line_of_term t) e (λ q. omega (arith, q)) (λ q. omega (arith, q)) c
    ∙ feed_run r out ys (ready 0 at w k n s out (term_bytes t) ys (line_of_term t) e (λ q. omega (arith, q)) (λ q. omega (arith, q)) c)
    (v.0 ∙ term_zero (factor (k - 1)) s t l.0) (rw v.1 h)
    ∙ (rw (v.2, v.1))

-- A count line.
pub count_line : (c : CountLine) (at w k : ℕ) (s : Tally) (out ys : List ℕ) → GoodCount c → k < block_count → count_fits s (count c) ≡ true
    → at + length (count_bytes c) < last_offset
    → w + length (count_packed c) ≤ length out
    → run (sp 20 at w k 0 s) out (count_bytes c ++ (10 ∷ ys))
    ≡ run (after_count (at + length (count_bytes c) + 1) w k s c) (sets out w (count_packed c)) ys
count_line c at w k s out ys g b f l h =
    let m = length (count_bytes c) in
    let L = put (fresh 20) (21 + length c.more) 0 (count c) in
    let r = moved (sp 20 at w k 0 s) L m in
    let v = count_verdict 20 at w k m s (count c) L (is_whole c g) refl in
    let e = count_run c g in
    let i : 21 + length c.more ≡ 31 → ⊥ = λ q. omega (arith, q, g.few) in
    let j : 21 + length c.more ≡ 30 → ⊥ = λ q. omega (arith, q, g.few) in
    to_feed 20 at w k 0 s out (count_bytes c) ys L e i j l
    ∙ feed_run r out ys (ready 20 at w k 0 s out (count_bytes c) ys L e i j l) (v.0 ∙ count_zero k s (count c) b f) (rw v.1 h)
    ∙ (rw (v.2, v.1))

-- The terms of a block.
terms_run : (ls : List TermLine) (at w k : ℕ) (s : Tally) (out ys : List ℕ) → AllGood ls → TermsInLimits (factor (k - 1)) s ls
    → at + length (lines_bytes ls) ≤ last_offset
    → w + length (pack_terms (terms_of_lines ls)) ≤ length out
    → run (st at w k (length ls) s) out (lines_bytes ls ++ ys)
    ≡ run (st (at + length (lines_bytes ls)) (w + length (pack_terms (terms_of_lines ls))) k 0 (summed (factor (k - 1)) s (terms_of_lines ls)))
    (sets out w (pack_terms (terms_of_lines ls))) ys
unfolding AllGood TermsInLimits lines_bytes terms_of_lines pack_terms summed
terms_run [] at w k s out ys g l c h = rw (add-zero at, add-zero w)
terms_run (t ∷ ls) at w k s out ys g l c h =
    let x = pack_term (term_of_line t) in
    let y = pack_terms (terms_of_lines ls) in
    let m = length (term_bytes t) in
    let p : length (term_bytes t ++ (10 ∷ lines_bytes ls)) ≡ m + suc (length (lines_bytes ls)) =
    length-append (term_bytes t) (10 ∷ lines_bytes ls)
    in
    let q : length (x ++ y) ≡ length x + length y = length-append x y in
    let z = length-sets out w x in
    let a : at + m + 1 + length (lines_bytes ls) ≡ at + (m + suc (length (lines_bytes ls))) = omega arith in
    let b : w + length x + length y ≡ w + (length x + length y) = omega arith in
    let d : suc (length ls) - 1 ≡ length ls = omega arith in
    ap (λ (i : ℕ). run (sp i at w k (suc (length ls)) s) out ((term_bytes t ++ (10 ∷ lines_bytes ls)) ++ ys)) (spot_term k (length ls))
    ∙ ap (λ (i : List ℕ). run (sp 0 at w k (suc (length ls)) s) out i) (append_assoc (term_bytes t) (10 ∷ lines_bytes ls) ys)
    ∙ term_line t at w k (suc (length ls)) s out (lines_bytes ls ++ ys) g.0 (l.0, tt) (omega (arith, p)) (omega (arith, q))
    ∙ ap (λ (i : ℕ). run (st (at + m + 1) (w + length x) k i (added (factor (k - 1)) s (term_of_line t))) (sets out w x) (lines_bytes ls ++ ys)) d
    ∙ terms_run ls (at + m + 1) (w + length x) k (added (factor (k - 1)) s (term_of_line t)) (sets out w x) ys g.1 l.1
    (omega (arith, p)) (omega (arith, q, z))
    ∙ (rw (p, q, a, b, sets_append x y out w))

-- The tally after some blocks.
unfoldable pub after_blocks : ℕ → Tally → List Block → Tally
after_blocks k s [] = s
after_blocks k s (b ∷ bs) = after_blocks (k + 1) (after_block k s (terms_of_lines b.lines)) bs

run_none : (r : Reader) (out : List ℕ) → run r out [] ≡ record { reader = r; out = out }
unfolding run
run_none r out = refl

same_run : (s : Tally) (a a' w w' : ℕ) (o o' : List ℕ) → a ≡ a' → w ≡ w' → o ≡ o'
    → ◌≡◌ {A = Run} record { reader = st a w block_count 0 s; out = o } record { reader = st a' w' block_count 0 s; out = o' }
same_run s a a' w w' o o' p q r = rw (p, q, r)

-- Blocks to the eighteenth.
pub blocks_run : (ks : List Block) (at w k : ℕ) (s : Tally) (out : List ℕ) → GoodBlocks ks → BlocksInLimits k s ks → k + length ks ≡ block_count
    → at + length (blocks_bytes ks) ≤ last_offset
    → w + length (pack (blocks_of_lines ks)) ≤ length out
    → run (st at w k 0 s) out (blocks_bytes ks)
    ≡ record {
      reader = st (at + length (blocks_bytes ks)) (w + length (pack (blocks_of_lines ks))) block_count 0 (after_blocks k s ks);
      out = sets out w (pack (blocks_of_lines ks));
    }
unfolding GoodBlocks BlocksInLimits blocks_bytes blocks_of_lines pack pack_block after_blocks after_block
blocks_run [] at w k s out g l e c h = let i : k ≡ block_count = omega arith in run_none (st at w k 0 s) out ∙ (rw (i, add-zero at, add-zero w))
blocks_run (b ∷ bs) at w k s out g l e c h =
    let ls = b.lines in
    let n = count b.head in
    let x = encode n in
    let y = pack_terms (terms_of_lines ls) in
    let z = pack (blocks_of_lines bs) in
    let m = length (count_bytes b.head) in
    let u = length (lines_bytes ls) in
    let v = length (blocks_bytes bs) in
    let s₁ = opened k n s in
    let f : length (terms_of_lines ls) ≡ n = length_terms ls ∙ g.1 in
    let p : length (count_bytes b.head ++ (10 ∷ (lines_bytes ls ++ blocks_bytes bs))) ≡ m + suc (u + v) =
    length-append (count_bytes b.head) (10 ∷ (lines_bytes ls ++ blocks_bytes bs))
    ∙ ap (λ (i : ℕ). m + suc i) (length-append (lines_bytes ls) (blocks_bytes bs))
    in
    let q : length ((x ++ y) ++ z) ≡ length x + length y + length z =
    length-append (x ++ y) z ∙ ap (λ (i : ℕ). i + length z) (length-append x y)
    in
    let h' : w + length ((x ++ y) ++ z) ≤ length out = rw f at h in
    let o₁ = length-sets out w x in
    let o₂ = length-sets (sets out w x) (w + length x) y in
    let i : at + m + 1 + u + v ≡ at + (m + suc (u + v)) = omega arith in
    let d : w + length x + length y + length z ≡ w + (length x + length y + length z) = omega arith in
    let j = sets_three x y z out w in
    let r : summed (factor (k + 1 - 1)) s₁ (terms_of_lines ls) ≡ after_block k s (terms_of_lines ls) = rw (less k, f) in
    let s₂ = after_block k s (terms_of_lines ls) in
    let s₃ = after_blocks (k + 1) s₂ bs in
    let pb : pack (blocks_of_lines (b ∷ bs)) ≡ (x ++ y) ++ z = rw f in
    let k₁ : k < block_count = omega arith in
    let t₁ : TermsInLimits (factor (k + 1 - 1)) s₁ ls = rw (less k) l.1 in
    ap (λ (i : ℕ). run (sp i at w k 0 s) out (count_bytes b.head ++ (10 ∷ (lines_bytes ls ++ blocks_bytes bs)))) (spot_count k (λ i. omega (arith, i)))
    ∙ count_line b.head at w k s out (lines_bytes ls ++ blocks_bytes bs) g.0 k₁ l.0 (omega (arith, p)) (omega (arith, q, h'))
    ∙ ap (λ (i : ℕ). run (st (at + m + 1) (w + length x) (k + 1) i s₁) (sets out w x) (lines_bytes ls ++ blocks_bytes bs)) (sym g.1)
    ∙ terms_run ls (at + m + 1) (w + length x) (k + 1) s₁ (sets out w x) (blocks_bytes bs) g.2 t₁ (omega (arith, p)) (omega (arith, q, h', o₁))
    ∙ ap (λ (i : Tally). run (st (at + m + 1 + u) (w + length x + length y) (k + 1) 0 i) (sets (sets out w x) (w + length x) y) (blocks_bytes bs)) r
    ∙ blocks_run bs (at + m + 1 + u) (w + length x + length y) (k + 1) s₂ (sets (sets out w x) (w + length x) y)
    g.3 l.2 (omega arith) (omega (arith, p)) (omega (arith, q, h', o₁, o₂))
    ∙ same_run s₃ _ _ _ _ _ _ (i ∙ ap (λ (n : ℕ). at + n) (sym p))
    (d ∙ ap (λ (n : ℕ). w + n) (sym (ap length pb ∙ q))) (sym j ∙ ap (λ (o : List ℕ). sets out w o) (sym pb))
