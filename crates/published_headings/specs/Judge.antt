-- RULES, "Published files": the judgement of a record at its line feed. Refusals for a heading and for a running number come before those
-- that a series text has; then the packed bytes that the writer has to find room for.
use Rattle.std.specs.Prelude.{Bool, cond, ◌&&◌, List, [], ◌∷◌, ◌++◌, ℕ, zero, suc, ◌+◌, ◌*◌, ◌-◌, leb, ltb, eqb}
use Rattle.packed_numbers.specs.Numbers.{encode}
use Rattle.units.specs.Units.{powers}
use Rattle.units.specs.Refusals.{over_limit, bad_heading, bad_number}
use Rattle.limits.specs.declared.Term.{Term}
use Rattle.limits.specs.declared.Tally.{Tally}
use Rattle.limits.specs.Limits.{opened, count_fits}
use Rattle.series_lines.specs.Judge.{term_line_refusal}

-- The version of the theory whose files are read.
abbrev pub theory_version : ℕ
theory_version = 4

-- Longitude, latitude and radius.
abbrev pub coordinate_count : ℕ
coordinate_count = 3

-- The block, counted from 0, of a coordinate (from 1) and a power (from 0).
unfoldable pub block_of : ℕ → ℕ → ℕ
block_of coordinate power = powers * (coordinate - 1) + power

-- A heading is of the theory's version, of a block, and comes in its order: with `done` blocks before it.
unfoldable pub in_order : ℕ → ℕ → ℕ → ℕ → Bool
in_order done version coordinate power =
    eqb version theory_version
    && (leb 1 coordinate && (leb coordinate coordinate_count && (ltb power powers && leb done (block_of coordinate power))))

-- The number of the refusal of a heading with the count n after `done` blocks and a tally, or 0.
unfoldable pub heading_refusal : ℕ → Tally → ℕ → ℕ → ℕ → ℕ → ℕ
heading_refusal done s version coordinate power n =
    cond (in_order done version coordinate power) (cond (count_fits s n) 0 over_limit) bad_heading

-- The number of the refusal of a term whose running number comes after `last`, or 0; minusb is 1 where b has a minus.
unfoldable pub record_refusal : ℕ → ℕ → ℕ → Tally → ℕ → Term → ℕ
record_refusal last number f s minusb t = cond (eqb number (last + 1)) (term_line_refusal f s minusb t) bad_number

-- Blocks without a heading, the first of them block k, have no terms: the tally after n of them, and their packed counts.
unfoldable pub skipped : ℕ → ℕ → Tally → Tally
skipped k zero s = s
skipped k (suc n) s = skipped (k + 1) n (opened k 0 s)

unfoldable pub zeros : ℕ → List ℕ
zeros zero = []
zeros (suc n) = 0 ∷ zeros n

-- What is written with a heading of block k after `done` blocks.
abbrev pub heading_packed : ℕ → ℕ → ℕ → List ℕ
heading_packed done k n = zeros (k - done) ++ encode n
