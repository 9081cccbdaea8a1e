-- What the readers of series texts and of published files hold (RULES, "Series, as text and packed", "Published files" and "Refusals and what
-- they leave"): where they stand in a line and after one, what a line or a record that was judged writes, and what stands after a call.
use Rattle.std.specs.Prelude.{Bool, cond, List, ℕ, ◌+◌, leb, eqb, length}
use Rattle.std.proofs.lemmas.List.Edits.{sets}
use Rattle.limits.specs.declared.Tally.{Tally}
use Rattle.units.specs.Units.{block_count, coarse_base}
use Rattle.units.specs.Refusals.{no_room, of_number}
use Rattle.series_lines.specs.declared.Line.{Line}
use Rattle.series_lines.specs.declared.Reader.{Reader}
use Rattle.series_lines.specs.declared.Outcome.{Outcome}
use Rattle.series_lines.specs.declared.Outcome.TheVariants.{More, Accepted, Refused}
use Rattle.series_lines.specs.Lexer.{fresh, spot_decimal, spot_count, spot_after}
use Rattle.series_lines.specs.Judge.{Verdict}

-- The status of a reader that reads on.
abbrev pub reading : ℕ
reading = 0

-- The status of one that has accepted the text or file at its end. After a refusal it is the refusal's number.
abbrev pub accepted : ℕ
accepted = 1

-- Before the first byte.
abbrev pub begun : Reader
begun =
    record {
      line = fresh spot_count;
      at = 0;
      written = 0;
      blocks = 0;
      left = 0;
      terms = 0;
      total = 0;
      coarse = coarse_base;
      status = reading;
      place = 0;
    }

-- The first refusal, with the offset of the byte that is judged; at the end, with the number of bytes.
abbrev pub stopped : Reader → ℕ → Reader
stopped r status =
    record {
      line = r.line;
      at = r.at;
      written = r.written;
      blocks = r.blocks;
      left = r.left;
      terms = r.terms;
      total = r.total;
      coarse = r.coarse;
      status = status;
      place = r.at;
    }

-- In a line of which so much has come, before the byte at an offset.
abbrev pub in_line : Reader → Line → ℕ → Reader
in_line r line at =
    record {
      line = line;
      at = at;
      written = r.written;
      blocks = r.blocks;
      left = r.left;
      terms = r.terms;
      total = r.total;
      coarse = r.coarse;
      status = reading;
      place = 0;
    }

-- One byte further in the line.
abbrev pub further_in_line : Reader → Line → Reader
further_in_line r line = in_line r line (r.at + 1)

-- The next line has a term, or a count, or nothing more may come.
unfoldable pub next_spot : ℕ → ℕ → ℕ
next_spot blocks left = cond (eqb left 0) (cond (eqb blocks block_count) spot_after spot_count) spot_decimal

-- After a line that was written up to written.
abbrev pub advanced : Reader → ℕ → ℕ → ℕ → Tally → Reader
advanced r written blocks left s =
    record {
      line = fresh (next_spot blocks left);
      at = r.at + 1;
      written = written;
      blocks = blocks;
      left = left;
      terms = s.terms;
      total = s.total;
      coarse = s.coarse;
      status = reading;
      place = 0;
    }

-- After a line that was judged and written.
abbrev pub after_line : Reader → Verdict → Reader
after_line r v = advanced r (r.written + length v.bytes) v.blocks v.left v.tally

-- There is room for a line's bytes.
unfoldable pub fits : List ℕ → ℕ → List ℕ → Bool
fits bytes written out = leb (written + length bytes) (length out)

-- The reader after the judgement of a line: refused also where there is no room for its bytes.
abbrev pub settled : Bool → Reader → Verdict → Reader
settled room r v = cond (eqb v.refusal 0) (cond room (after_line r v) (stopped r no_room)) (stopped r v.refusal)

-- Where they are written.
unfoldable pub wrote : Reader → List ℕ → Verdict → Reader
wrote r out v = settled (fits v.bytes r.written out) r v

-- Where nothing is written, as if there were an output of so many bytes.
unfoldable pub judged : ℕ → Reader → Verdict → Reader
judged room r v = settled (leb (r.written + length v.bytes) room) r v

-- The output with the bytes, where there is room for them.
unfoldable pub put_bytes : List ℕ → ℕ → List ℕ → List ℕ
put_bytes bytes written out = cond (fits bytes written out) (sets out written bytes) out

-- The output after the judgement of a line.
unfoldable pub wrote_out : Reader → List ℕ → Verdict → List ℕ
wrote_out r out v = cond (eqb v.refusal 0) (put_bytes v.bytes r.written out) out

-- The greatest number of a usize.
abbrev pub last_offset : ℕ
last_offset = 18446744073709551615

-- The rules leave undecided what comes of one more byte than a usize counts. The reader then stops.
unfoldable pub uncounted : Reader → Bool
uncounted r = eqb r.at last_offset

-- What stands: more may come, with the packed length so far; or the answer, which later calls repeat.
unfoldable pub told : Reader → Outcome
told r =
    cond (eqb r.status reading) (More r.written)
    (cond (eqb r.status accepted) (Accepted r.written) (Refused (of_number r.status r.place)))
