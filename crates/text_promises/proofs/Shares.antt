-- A text that was accepted with the former share of the coarseness rule is accepted now, with the same packed form. Assumes nothing.
use mathlib.Core.Path.{◌≡◌}
use mathlib.Core.List.{List, [], ◌∷◌}
use Prim.Native.Nat.{ℕ, ◌+◌, ◌≤◌}
use lib.ListN.{length}
use lib.Seq.{sets}
use Rattle.units.specs.Units.{coarse_share}
use Rattle.limits.specs.declared.Tally.{Tally}
use Rattle.limits.specs.Limits.{no_tally, opened, added, after_block, factor}
use Rattle.limits.specs.Allowed.{AllowedBy}
use Rattle.limits.proofs.Series.{allowed_good}
use Rattle.packed.specs.Series.{pack}
use Rattle.packed_promises.specs.Shares.{former_share}
use Rattle.packed_promises.proofs.Shares.{still_allowed}
use Rattle.series_lines.specs.declared.Outcome.TheVariants.{Accepted}
use Rattle.series_lines.specs.Reader.{last_offset, told}
use Rattle.series_lines.specs.Grammar.{TermLine, Block, blocks_bytes, term_of_line, terms_of_lines, blocks_of_lines, count, GoodText}
use Rattle.series_lines.specs.Grammar.{TermsInLimits, BlocksInLimits}
use Rattle.text.specs.Reader.{whole}
use Rattle.text_promises.proofs.Theorems.{accepted_text, read_text}
use Rattle.text_promises.proofs.Series.{NoMinus, FromZero, text_allowed, blocks_in}

-- ---- What is accepted has no minus before any b, and its blocks are within the limits.

no_minus_in : (f : ℕ) (s : Tally) (ls : List TermLine) → TermsInLimits f s ls → NoMinus ls
unfolding TermsInLimits NoMinus
no_minus_in f s [] h = tt
no_minus_in f s (l ∷ ls) h = (h.0.from_zero, no_minus_in f (added f s (term_of_line l)) ls h.1)

from_zero_in : (k : ℕ) (s : Tally) (ks : List Block) → BlocksInLimits k s ks → FromZero ks
unfolding BlocksInLimits FromZero
from_zero_in k s [] h = tt
from_zero_in k s (b ∷ bs) h =
    (no_minus_in (factor k) (opened k (count b.head) s) b.lines h.1, from_zero_in (k + 1) (after_block k s (terms_of_lines b.lines)) bs h.2)

pub read_by_now : (text out : List ℕ) (n : ℕ) (e : told (whole text out).reader ≡ Accepted n)
    → (let ks = (accepted_text text out n e).ks in FromZero ks × AllowedBy coarse_share (blocks_of_lines ks))
read_by_now text out n e =
    let r = accepted_text text out n e in
    (from_zero_in 0 no_tally r.ks r.limits, text_allowed r.ks r.good r.limits)

-- ---- And what is so with the former share is accepted now: a text of the grammar, without a minus before any b, whose blocks are within the
-- limits, where it can be counted and has room; the output holds its packed form, the rest of it untouched. With the former share
-- `accepted_text` and `read_by_now` said of every text accepted then that it is such a text.
pub still_read : (ks : List Block) (out : List ℕ) → GoodText ks → FromZero ks → AllowedBy former_share (blocks_of_lines ks)
    → length (blocks_bytes ks) ≤ last_offset → length (pack (blocks_of_lines ks)) ≤ length out
    → (told (whole (blocks_bytes ks) out).reader ≡ Accepted (length (pack (blocks_of_lines ks))))
    × ((whole (blocks_bytes ks) out).out ≡ sets out 0 (pack (blocks_of_lines ks)))
still_read ks out g u a c h =
    let b = allowed_good (blocks_of_lines ks) (still_allowed (blocks_of_lines ks) a) in
    read_text ks out g (blocks_in 0 no_tally ks g.good u b) c h
