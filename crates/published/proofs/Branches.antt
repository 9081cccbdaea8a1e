-- What each way through the reader's code gives, over plain values. Assumes nothing.
use mathlib.Core.Path.{◌≡◌, sym, ap, ◌∙◌}
use mathlib.Core.Bool.{true, false}
use mathlib.Core.List.{List, ◌++◌}
use Prim.Native.Nat.{ℕ, ◌+◌, ◌-◌, ◌≤◌}
use native.Mathlib.Omega.{arith}
use borrow.Author.Tests.{eq-eqb, ne_eqb, le-ltb, leb-true}
use lib.Dec.{eqb}
use lib.ListN.{length}
use Rattle.units.specs.Units.{block_count}
use Rattle.units.specs.Refusals.{bad_byte, no_room, bad_number}
use Rattle.std.proofs.Common.{Result, Ok, Err}
use Rattle.packed_numbers.specs.declared.NoRoom.{NoRoom}
use Rattle.packed_numbers.specs.Numbers.{encode}
use Rattle.limits.specs.declared.Tally.{Tally}
use Rattle.limits.specs.Limits.{opened}
use Rattle.series_lines.specs.declared.Reader.{Reader}
use Rattle.series_lines.specs.Grammar.{feed}
use Rattle.series_lines.specs.Lexer.{spot_bad}
use Rattle.series_lines.specs.Judge.{tally, term_end}
use Rattle.series_lines.specs.Reader.{reading, last_offset, stopped, in_line, advanced, fits, put_bytes, wrote, wrote_out, uncounted}
use Rattle.series_lines.specs.Machine.Writer.{put_bytes_answer}
use Rattle.series_lines.proofs.Branches.{fit, wrote_refused, wrote_full, wrote_next}
use Rattle.published_records.specs.declared.Row.{Row}
use Rattle.published_records.specs.Rows.{lex_row, whole_row}
use Rattle.published_headings.specs.Judge.{block_of, record_refusal, skipped, zeros}
use Rattle.published_headings.proofs.Zeros.{length_zeros}
use Rattle.published.specs.declared.Published.{Published}
use Rattle.published.specs.Reader.{at_heading, further, other, heading_end, record_end, verdict, complete, step, step_out}
use Rattle.published.specs.Reader.{inside, missing, finished, ended, ended_out}

-- ---- A term record whose running number does not come next, or does: then it is judged as a line of a text.

pub record_wrong : (p : Published) (s : Reader) (out : List ℕ) → eqb p.row.number (p.last + 1) ≡ false → s ≡ stopped p.reader bad_number
    → (s ≡ wrote p.reader out (record_end p)) × (out ≡ wrote_out p.reader out (record_end p))
unfolding record_refusal
record_wrong p s out e f = wrote_refused p.reader s out (record_end p) bad_number (rw e) (λ z. omega (arith, z)) f

pub record_as_line : (p : Published) → eqb p.row.number (p.last + 1) ≡ true → term_end (in_line p.reader p.row.line p.reader.at) ≡ record_end p
unfolding record_refusal
record_as_line p e = rw e

-- ---- A heading that is not refused, of block k.

module _ (p : Published) (k : ℕ) (is_block : k ≡ block_of p.row.coordinate p.row.power) (good : (heading_end p).refusal ≡ 0) where
  -- What is written, and the tally.
  abbrev counts : ℕ → List ℕ
  counts j = zeros (j - p.reader.blocks) ++ encode p.row.line.value

  abbrev after : ℕ → Tally
  after j = opened j p.row.line.value (skipped p.reader.blocks (j - p.reader.blocks) (tally p.reader))

  module _ (s : Reader) (out o : List ℕ) (stores : o ≡ put_bytes (counts k) p.reader.written out) where
    answer_is : (put : Result ℕ NoRoom) → put ≡ put_bytes_answer (counts k) p.reader.written out
        → put ≡ put_bytes_answer (heading_end p).bytes p.reader.written out
    answer_is put answers = answers ∙ ap (λ (j : ℕ). put_bytes_answer (counts j) p.reader.written out) is_block

    store_is : o ≡ put_bytes (heading_end p).bytes p.reader.written out
    store_is = stores ∙ ap (λ (j : ℕ). put_bytes (counts j) p.reader.written out) is_block

    pub heading_full : (e : NoRoom) → Err e ≡ put_bytes_answer (counts k) p.reader.written out → s ≡ stopped p.reader no_room
        → (s ≡ wrote p.reader out (heading_end p)) × (o ≡ wrote_out p.reader out (heading_end p))
    heading_full q f e = wrote_full p.reader s out (heading_end p) good o _ store_is q (answer_is (Err q) f) e

    pub heading_next : (n : ℕ) → Ok n ≡ put_bytes_answer (counts k) p.reader.written out → s ≡ advanced p.reader n (k + 1) p.row.line.value (after k)
        → (s ≡ wrote p.reader out (heading_end p)) × (o ≡ wrote_out p.reader out (heading_end p))
    heading_next n f e =
        wrote_next p.reader s out (heading_end p) good o _ store_is n (answer_is (Ok n) f)
        (e ∙ ap (λ (j : ℕ). advanced p.reader n (j + 1) p.row.line.value (after j)) is_block)

-- ---- A line feed, by what the record is.

pub verdict_early : (p : Published) → whole_row (at_heading p) p.row ≡ false → (verdict p).refusal ≡ bad_byte
unfolding verdict
verdict_early p e = rw e

-- A byte that is no line feed.
pub other_good : (p : Published) (row : Row) (byte : ℕ) → row ≡ lex_row (at_heading p) p.row byte → (row.line.spot ≡ spot_bad → ⊥)
    → further p row ≡ other p byte
unfolding other
other_good p row byte e h = rw (← e, ne_eqb row.line.spot spot_bad h)

-- ---- One byte with which the record goes on.

pub step_other : (p q : Published) (out : List ℕ) (byte : ℕ) → p.reader.status ≡ reading → (p.reader.at ≡ last_offset → ⊥) → complete p ≡ false
    → (byte ≡ feed → ⊥) → q ≡ other p byte → (q ≡ step p out byte) × (out ≡ step_out p out byte)
unfolding step step_out uncounted
step_other p q out byte going counts more h e =
    let g = eq-eqb p.reader.status reading going in
    let t = ne_eqb p.reader.at last_offset counts in
    let v = ne_eqb byte feed h in (rw (g, t, more, v) e, rw (g, t, more, v))

-- ---- The end.

-- There was room for the zeros.
pub zeros_fit : (m at n : ℕ) (out : List ℕ) → Ok n ≡ put_bytes_answer (zeros m) at out → at + m ≤ length out
unfolding fits
zeros_fit m at n out e =
    let t = fit (fits (zeros m) at out) _ _ n e in
    let h = leb-true (at + length (zeros m)) (length out) t.0 in
    omega (arith, h, length_zeros m)

module _ (p q : Published) (out after : List ℕ) (going : p.reader.status ≡ reading) (between : p.row.column ≤ 1) (none_left : p.reader.left ≤ 0)
    (m : ℕ) (is_missing : m ≡ block_count - p.reader.blocks) (stores : after ≡ put_bytes (zeros m) p.reader.written out) where
  answer_for : (put : Result ℕ NoRoom) → put ≡ put_bytes_answer (zeros m) p.reader.written out
      → put ≡ put_bytes_answer (missing p) p.reader.written out
  answer_for put answers = answers ∙ ap (λ (j : ℕ). put_bytes_answer (zeros j) p.reader.written out) is_missing

  store_for : after ≡ put_bytes (missing p) p.reader.written out
  store_for = stores ∙ ap (λ (j : ℕ). put_bytes (zeros j) p.reader.written out) is_missing

  pub ended_whole : (n : ℕ) → Ok n ≡ put_bytes_answer (zeros m) p.reader.written out → q ≡ finished p m → (q ≡ ended p out) × (after ≡ ended_out p out)
  unfolding ended ended_out inside
  ended_whole n f e =
      let g = eq-eqb p.reader.status reading going in
      let t = le-ltb 1 p.row.column between in
      let u = le-ltb 0 p.reader.left none_left in
      let v = (fit (fits (missing p) p.reader.written out) _ _ n (answer_for (Ok n) f)).0 in
      let l : m ≡ length (missing p) = is_missing ∙ sym (length_zeros (block_count - p.reader.blocks)) in
      (rw (g, t, u, v) (e ∙ ap (λ (j : ℕ). finished p j) l), rw (g, t, u) store_for)
