-- The plain lines of a whole series: they follow the grammar, stand within the limits, and are what is printed of their numbers. Assumes nothing.
use mathlib.Core.Path.{◌≡◌, refl, sym, ap₂, ◌∙◌}
use mathlib.Core.Bool.{false}
use mathlib.Core.List.{List, [], ◌∷◌, map}
use Prim.Native.Nat.{ℕ, ◌+◌}
use native.Mathlib.Omega.{arith}
use lib.ListN.{length, length-map}
use Rattle.limits.specs.declared.Term.{Term}
use Rattle.limits.specs.declared.Tally.{Tally}
use Rattle.limits.specs.Limits.{factor, opened, added}
use Rattle.limits.specs.Limits.{after_block}
use Rattle.limits.proofs.Terms as limits
use Rattle.limits.proofs.Series as judged
use Rattle.series_lines.specs.Grammar.{count, TermLine, Block, term_of_line, terms_of_lines, blocks_of_lines, AllGood, GoodBlocks}
use Rattle.series_lines.specs.Grammar.{TermsInLimits, BlocksInLimits}
use Rattle.text_promises.proofs.Series.{length_terms, NoMinus, FromZero, blocks_in}
use Rattle.printer.specs.Printer.{plain_decimal, plain_term, plain_block}
use Rattle.printer_promises.proofs.Spacing.{PlainLines, Plain}
use Rattle.printer_promises.proofs.PlainLines.{decimal_good, number_good, count_plain, count_good, count_unique, term_plain, term_unique}

-- The numbers of the printed lines.
pub terms_plain : (ts : List Term) → terms_of_lines (map plain_term ts) ≡ ts
unfolding terms_of_lines
terms_plain [] = refl
terms_plain (t ∷ ts) = ap₂ (λ (x : Term) (l : List Term). x ∷ l) (term_plain t) (terms_plain ts)

pub blocks_plain : (blocks : List (List Term)) → blocks_of_lines (map plain_block blocks) ≡ blocks
unfolding blocks_of_lines plain_block
blocks_plain [] = refl
blocks_plain (ts ∷ blocks) = ap₂ (λ (x : List Term) (l : List (List Term)). x ∷ l) (terms_plain ts) (blocks_plain blocks)

-- A series within the limits is printed in lines that follow the grammar, and within the limits.
lines_good : {f : ℕ} {s : Tally} {ts : List Term} → limits.GoodTerms f s ts → AllGood (map plain_term ts)
unfolding AllGood
lines_good limits.good_none = tt
lines_good {ts = t ∷ ts} (limits.good_term g h) = (
  (unfold plain_term in record {
    a = number_good t.a (omega (arith, g.good_a.small));
    b = decimal_good false t.b (omega (arith, g.good_b)) (λ e. let z : ◌≡◌ {A = ℕ} 0 1 = cc in absurd (omega arith));
    c = number_good t.c g.good_c.small;
  }),
  lines_good h,
)

pub blocks_good : {k : ℕ} {s : Tally} {bs : List (List Term)} → judged.GoodBlocks k s bs → GoodBlocks (map plain_block bs)
unfolding GoodBlocks plain_block
blocks_good judged.none = tt
blocks_good {bs = ts ∷ bs} (judged.more g h) =
    (count_good (length ts) (omega (arith, g.few)), length-map ts plain_term ∙ sym (count_plain (length ts)), lines_good g.terms, blocks_good h)

lines_from_zero : (ts : List Term) → NoMinus (map plain_term ts)
unfolding NoMinus plain_term plain_decimal
lines_from_zero [] = tt
lines_from_zero (t ∷ ts) = (refl, lines_from_zero ts)

blocks_from_zero : (blocks : List (List Term)) → FromZero (map plain_block blocks)
unfolding FromZero plain_block
blocks_from_zero [] = tt
blocks_from_zero (ts ∷ blocks) = (lines_from_zero ts, blocks_from_zero blocks)

pub series_in : {k : ℕ} {s : Tally} {bs : List (List Term)} → judged.GoodBlocks k s bs → BlocksInLimits k s (map plain_block bs)
series_in {k} {s} {bs} g = blocks_in k s (map plain_block bs) (blocks_good g) (blocks_from_zero bs) (rw (blocks_plain bs) g)

-- Plain lines are printed as they are.
lines_unique : (f : ℕ) (s : Tally) (ls : List TermLine) → AllGood ls → TermsInLimits f s ls → PlainLines ls → map plain_term (terms_of_lines ls) ≡ ls
unfolding AllGood TermsInLimits PlainLines terms_of_lines
lines_unique f s [] g l p = refl
lines_unique f s (x ∷ ls) g l p =
    let one = term_unique x g.0 p.0 l.0.from_zero in
    ap₂ (λ (y : TermLine) (m : List TermLine). y ∷ m) one (lines_unique f (added f s (term_of_line x)) ls g.1 l.1 p.1)

pub blocks_unique : (k : ℕ) (s : Tally) (ks : List Block) → GoodBlocks ks → BlocksInLimits k s ks → Plain ks → map plain_block (blocks_of_lines ks) ≡ ks
unfolding GoodBlocks BlocksInLimits Plain blocks_of_lines plain_block
blocks_unique k s [] g l p = refl
blocks_unique k s (b ∷ bs) g l p =
    ap₂ (λ (y : Block) (m : List Block). y ∷ m) first (blocks_unique (k + 1) (after_block k s (terms_of_lines b.lines)) bs g.3 l.2 p.1)
  where
    first : plain_block (terms_of_lines b.lines) ≡ b
    first =
        let n : length (terms_of_lines b.lines) ≡ count b.head = length_terms b.lines ∙ g.1 in
        rw (n, count_unique b.head g.0, lines_unique (factor k) (opened k (count b.head) s) b.lines g.2 l.1 p.0)
