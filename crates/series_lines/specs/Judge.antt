-- RULES, "Refusals and what they leave": the judgement of a whole line at its line feed. It says 4, 5 or 6 for its numbers, and the packed
-- bytes that the writer then has to find room for.
use Rattle.std.specs.Prelude.{cond, List, ℕ, ◌+◌, ◌-◌, ltb, eqb, ℤ}
use Rattle.integers.specs.Signs.{sgn}
use Rattle.packed_numbers.specs.Numbers.{encode}
use Rattle.units.specs.Units.{block_count}
use Rattle.units.specs.Refusals.{over_limit, byte_after_end}
use Rattle.limits.specs.declared.Term.{Term}
use Rattle.limits.specs.declared.Tally.{Tally}
use Rattle.limits.specs.Limits.{opened, added, factor, count_fits, term_refusal}
use Rattle.packed.specs.Series.{pack_term}
use Rattle.series_lines.specs.declared.Line.{Line}
use Rattle.series_lines.specs.declared.Reader.{Reader}

-- The part of the series so far.
abbrev pub tally : Reader → Tally
tally r = record { terms = r.terms; total = r.total; coarse = r.coarse }

-- The decimal with a minus or none, in parts.
unfoldable pub signed : ℕ → ℕ → ℤ
signed minus value = sgn (ltb 0 minus) value

-- The term of a line with three decimals. (A b with a minus is refused.)
abbrev pub term_on_line : Line → Term
term_on_line l = record { a = signed l.minusa l.a; b = l.b; c = signed l.minus l.value }

-- What a whole line says: the number of the refusal of its numbers, or 0; its packed bytes; and with it the counts so far, the terms left of
-- the block and the tally.
pub record Verdict : Type 0 where
  pub refusal : ℕ
  pub bytes : List ℕ
  pub blocks : ℕ
  pub left : ℕ
  pub tally : Tally

-- A count. (A state in which one comes after 18 of them was given by no call.)
unfoldable pub count_refusal : ℕ → Tally → ℕ → ℕ
count_refusal blocks s n = cond (ltb blocks block_count) (cond (count_fits s n) 0 over_limit) byte_after_end

abbrev pub count_end : Reader → Verdict
count_end r =
    record {
      refusal = count_refusal r.blocks (tally r) r.line.value;
      bytes = encode r.line.value;
      blocks = r.blocks + 1;
      left = r.line.value;
      tally = opened r.blocks r.line.value (tally r);
    }

-- A term, in a block with factor f after the tally s: the limits of every series, and b without a minus.
unfoldable pub term_line_refusal : ℕ → Tally → ℕ → Term → ℕ
term_line_refusal f s minusb t = cond (eqb minusb 0) (term_refusal f s t) over_limit

abbrev pub term_end : Reader → Verdict
term_end r =
    record {
      refusal = term_line_refusal (factor (r.blocks - 1)) (tally r) r.line.minusb (term_on_line r.line);
      bytes = pack_term (term_on_line r.line);
      blocks = r.blocks;
      left = r.left - 1;
      tally = added (factor (r.blocks - 1)) (tally r) (term_on_line r.line);
    }
