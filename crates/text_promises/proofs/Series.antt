-- The packed form of an accepted text is an accepted packed series of the same blocks, for a text and a packed series have the same limits.
-- Assumes nothing.
use mathlib.Core.Path.{◌≡◌, refl, sym, ap, ◌∙◌}
use mathlib.Core.Bool.{false}
use mathlib.Core.List.{List, [], ◌∷◌}
use Prim.Native.Nat.{ℕ, suc, ◌+◌, ◌≤◌}
use native.Mathlib.Omega.{arith}
use lib.ListN.{length, take, drop}
use lib.Seq.{sets, sets-eq, take-append_seam}
use Rattle.limits.specs.declared.Tally.{Tally}
use Rattle.limits.specs.Limits.{factor, no_tally, opened, added, after_block}
use Rattle.packed.specs.Series.{accepted, parse, pack}
use Rattle.limits.specs.Allowed.{Allowed}
use Rattle.limits.proofs.Passing.{GoodTerm, good_of, passes_of, count_passed, count_passes}
use Rattle.limits.proofs.Terms as limits
use Rattle.limits.proofs.Series as judged
use Rattle.packed_promises.proofs.Theorems.{pack_parse}
use Rattle.series_lines.specs.declared.Outcome.TheVariants.{Accepted}
use Rattle.series_lines.specs.Reader.{told}
use Rattle.text.specs.Reader.{whole}
use Rattle.series_lines.specs.Grammar.{count, TermLine, Block, term_of_line, terms_of_lines, blocks_of_lines, GoodBlocks, GoodText}
use Rattle.series_lines.specs.Grammar.{TermInLimits, TermsInLimits, BlocksInLimits, InLimits}
use Rattle.text_promises.proofs.Verdicts.{within_passes, passes_within}
use Rattle.text_promises.proofs.Theorems.{Reads, accepted_text}
pub use Rattle.text_promises.proofs.TakenTexts.{length_terms}

-- ---- The limits of a term, as the text and as the packed series have them.

term_out : (f : ℕ) (s : Tally) (l : TermLine) → TermInLimits f s l → GoodTerm f s (term_of_line l)
term_out f s l g = good_of f s (term_of_line l) (within_passes f s l g)

term_in : (f : ℕ) (s : Tally) (l : TermLine) → l.b.minus ≡ false → GoodTerm f s (term_of_line l) → TermInLimits f s l
term_in f s l u g = passes_within f s l u (passes_of f s (term_of_line l) g)

-- ---- As many blocks of terms as blocks.

length_blocks : (ks : List Block) → length (blocks_of_lines ks) ≡ length ks
unfolding blocks_of_lines
length_blocks [] = refl
length_blocks (k ∷ ks) = ap suc (length_blocks ks)

-- ---- Lines within the limits have numbers within the limits.

terms_out : (f : ℕ) (s : Tally) (ls : List TermLine) → TermsInLimits f s ls → limits.GoodTerms f s (terms_of_lines ls)
unfolding TermsInLimits terms_of_lines
terms_out f s [] h = limits.good_none
terms_out f s (l ∷ ls) h = limits.good_term (term_out f s l h.0) (terms_out f (added f s (term_of_line l)) ls h.1)

blocks_out : (k : ℕ) (s : Tally) (ks : List Block) → GoodBlocks ks → BlocksInLimits k s ks → judged.GoodBlocks k s (blocks_of_lines ks)
unfolding GoodBlocks BlocksInLimits blocks_of_lines
blocks_out k s [] g l = judged.none
blocks_out k s (b ∷ bs) g l =
    let n : count b.head ≡ length (terms_of_lines b.lines) = sym g.1 ∙ sym (length_terms b.lines) in
    let c = count_passed s (count b.head) l.0 in
    judged.more
    (record { few = rw n at c.few; fewer = rw n at c.fewer; terms = rw n at (terms_out (factor k) (opened k (count b.head) s) b.lines l.1) })
    (blocks_out (k + 1) (after_block k s (terms_of_lines b.lines)) bs g.3 l.2)

pub text_allowed : (ks : List Block) → GoodText ks → InLimits ks → Allowed (blocks_of_lines ks)
text_allowed ks g l = judged.good_allowed (blocks_of_lines ks) (length_blocks ks ∙ g.eighteen) (blocks_out 0 no_tally ks g.good l)

-- ---- And back, where no b has a minus.

-- No b of these lines has a minus.
unfoldable pub NoMinus : List TermLine → Type 0
NoMinus [] = Unit {0}
NoMinus (l ∷ ls) = (l.b.minus ≡ false) × NoMinus ls

-- Nor of these blocks.
unfoldable pub FromZero : List Block → Type 0
FromZero [] = Unit {0}
FromZero (k ∷ ks) = NoMinus k.lines × FromZero ks

terms_in : (f : ℕ) (s : Tally) (ls : List TermLine) → NoMinus ls → limits.GoodTerms f s (terms_of_lines ls) → TermsInLimits f s ls
unfolding TermsInLimits terms_of_lines NoMinus
terms_in f s [] u h = tt
terms_in f s (l ∷ ls) u (limits.good_term g h) = (term_in f s l u.0 g, terms_in f (added f s (term_of_line l)) ls u.1 h)

pub blocks_in : (k : ℕ) (s : Tally) (ks : List Block) → GoodBlocks ks → FromZero ks → judged.GoodBlocks k s (blocks_of_lines ks) → BlocksInLimits k s ks
unfolding GoodBlocks BlocksInLimits blocks_of_lines FromZero
blocks_in k s [] g u h = tt
blocks_in k s (b ∷ bs) g u (judged.more c h) =
    let n : length (terms_of_lines b.lines) ≡ count b.head = length_terms b.lines ∙ g.1 in (
      count_passes s (count b.head) (record { few = rw n at c.few; fewer = rw n at c.fewer }),
      terms_in (factor k) (opened k (count b.head) s) b.lines u.0 (rw n at c.terms),
      blocks_in (k + 1) (after_block k s (terms_of_lines b.lines)) bs g.3 u.1 h,
    )

-- ---- The bytes that the reader wrote.

-- What a buffer begins with after a text was written at its start.
pub front : (x out : List ℕ) → length x ≤ length out → take (length x) (sets out 0 x) ≡ x
front x out h =
    let l : 0 + length x ≤ length out = omega arith in
    ap (λ (s : List ℕ). take (length x) s) (sets-eq x out 0 l) ∙ take-append_seam x (drop (0 + length x) out)

pub reads_packed : (text out : List ℕ) (n : ℕ) (r : Reads text out n) → take n (whole text out).out ≡ pack (blocks_of_lines r.ks)
reads_packed text out n r =
    let x = pack (blocks_of_lines r.ks) in
    let room : length x ≤ length out = rw r.long at r.room in
    ap (λ (k : ℕ). take k (whole text out).out) r.long ∙ (ap (λ (s : List ℕ). take (length x) s) r.written ∙ front x out room)

-- The bytes of an accepted text are an accepted packed series, of the text's blocks.
pub accepted_series : (text out : List ℕ) (n : ℕ) (e : told (whole text out).reader ≡ Accepted n)
    → parse (take n (whole text out).out) ≡ accepted (blocks_of_lines (accepted_text text out n e).ks)
accepted_series text out n e =
    let r = accepted_text text out n e in
    ap parse (reads_packed text out n r) ∙ pack_parse (blocks_of_lines r.ks) (text_allowed r.ks r.good r.limits)
