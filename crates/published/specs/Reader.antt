-- The reader of a published file (RULES, "Published files" and "Refusals and what they leave"). As for a series text a call folds the step of
-- one byte over its bytes, so how the file is cut into calls cannot matter.
use Rattle.std.specs.Prelude.{Bool, true, cond, List, [], ℕ, ◌+◌, ◌-◌, ltb, eqb, length}
use Rattle.units.specs.Units.{block_count}
use Rattle.units.specs.Refusals.{bad_byte, no_room, ended_early, byte_after_end}
use Rattle.limits.specs.Limits.{opened, added, factor}
use Rattle.packed.specs.Series.{pack_term}
use Rattle.series_lines.specs.declared.Outcome.{Outcome}
use Rattle.series_lines.specs.Grammar.{feed}
use Rattle.series_lines.specs.Lexer.{spot_after, spot_bad}
use Rattle.series_lines.specs.Judge.{Verdict, tally, term_on_line}
use Rattle.series_lines.specs.Reader.{reading, accepted, begun, stopped, in_line, next_spot, fits, wrote, put_bytes, wrote_out, uncounted}
use Rattle.series_lines.specs.Reader as lines
use Rattle.series_lines.specs.Calls.{Run}
use Rattle.series_lines.specs.Calls as calls_of
use Rattle.published_records.specs.declared.Row.{Row}
use Rattle.published_records.specs.Rows.{fresh_row, lex_row, whole_row}
use Rattle.published_headings.specs.Judge.{block_of, heading_refusal, record_refusal, skipped, zeros, heading_packed}
use Rattle.published.specs.declared.Published.{Published}

-- Before the first byte.
abbrev pub begun_file : Published
begun_file = record { reader = begun; row = fresh_row; last = 0 }

-- A heading comes where no term is left of the block, else a term record.
unfoldable pub at_heading : Published → Bool
at_heading p = eqb p.reader.left 0

-- The first refusal, with the offset of the byte that is judged; at the end, with the number of bytes.
abbrev pub halted : Published → ℕ → Published
halted p status = record { reader = stopped p.reader status; row = p.row; last = p.last }

-- One byte further in the record.
abbrev pub further : Published → Row → Published
further p row = record { reader = in_line p.reader p.reader.line (p.reader.at + 1); row = row; last = p.last }

-- A byte that is no line feed: a bad byte where it cannot continue the record.
unfoldable pub other : Published → ℕ → Published
other p byte =
    cond (eqb (lex_row (at_heading p) p.row byte).line.spot spot_bad)
    (halted p bad_byte)
    (further p (lex_row (at_heading p) p.row byte))

-- What a heading says at its line feed.
abbrev pub heading_end : Published → Verdict
heading_end p =
    let k = block_of p.row.coordinate p.row.power in
    let done = p.reader.blocks in
    let n = p.row.line.value in
    record {
      refusal = heading_refusal done (tally p.reader) p.row.version p.row.coordinate p.row.power n;
      bytes = heading_packed done k n;
      blocks = k + 1;
      left = n;
      tally = opened k n (skipped done (k - done) (tally p.reader));
    }

-- What a term record says.
abbrev pub record_end : Published → Verdict
record_end p =
    let f = factor (p.reader.blocks - 1) in
    let t = term_on_line p.row.line in
    record {
      refusal = record_refusal p.last p.row.number f (tally p.reader) p.row.line.minusb t;
      bytes = pack_term t;
      blocks = p.reader.blocks;
      left = p.reader.left - 1;
      tally = added f (tally p.reader) t;
    }

-- A record that is not whole.
abbrev pub early_end : Published → Verdict
early_end p = record { refusal = bad_byte; bytes = []; blocks = p.reader.blocks; left = p.reader.left; tally = tally p.reader }

unfoldable pub verdict : Published → Verdict
verdict p = cond (whole_row (at_heading p) p.row) (cond (at_heading p) (heading_end p) (record_end p)) (early_end p)

-- The running number that the next one comes after.
unfoldable pub next_last : Published → ℕ
next_last p = cond (at_heading p) 0 p.row.number

-- After the judgement of a record: refused also where its bytes do not fit.
abbrev pub judged : Published → List ℕ → Published
judged p out = record { reader = wrote p.reader out (verdict p); row = fresh_row; last = next_last p }

-- The series is whole: after block 18 nothing may come.
unfoldable pub complete : Published → Bool
complete p = eqb (next_spot p.reader.blocks p.reader.left) spot_after

-- The reader after one byte. One that has stopped stays as it is.
unfoldable pub step : Published → List ℕ → ℕ → Published
step p out byte =
    cond (eqb p.reader.status reading)
    (cond (uncounted p.reader) (halted p bad_byte)
    (cond (complete p) (halted p byte_after_end)
    (cond (eqb byte feed) (judged p out) (other p byte))))
    p

-- The output after one byte.
unfoldable pub step_out : Published → List ℕ → ℕ → List ℕ
step_out p out byte =
    cond (eqb p.reader.status reading)
    (cond (uncounted p.reader) out
    (cond (complete p) out
    (cond (eqb byte feed) (wrote_out p.reader out (verdict p)) out)))
    out

-- A call, with its bytes.
abbrev pub run : Published → List ℕ → List ℕ → Run Published
run p out bytes = calls_of.run step step_out p out bytes

-- Some calls, one after the other; each may have any bytes or none.
abbrev pub calls : Published → List ℕ → List (List ℕ) → Run Published
calls p out ps = calls_of.calls step step_out p out ps

-- ---- The last call.

-- The file ends inside a record or a block.
unfoldable pub inside : Published → Bool
inside p = cond (ltb 1 p.row.column) true (ltb 0 p.reader.left)

-- The counts of the blocks that never came.
abbrev pub missing : Published → List ℕ
missing p = zeros (block_count - p.reader.blocks)

-- Accepted, with n bytes more.
abbrev pub finished : Published → ℕ → Published
finished p n =
    record {
      reader =
          record {
            line = p.reader.line;
            at = p.reader.at;
            written = p.reader.written + n;
            blocks = p.reader.blocks;
            left = p.reader.left;
            terms = p.reader.terms;
            total = p.reader.total;
            coarse = p.reader.coarse;
            status = accepted;
            place = p.reader.at;
          };
      row = p.row;
      last = p.last;
    }

-- Refused inside a record or a block; else the counts that are missing are written, all or none of them: where they do not fit, the refusal has the
-- number of bytes.
unfoldable pub ended : Published → List ℕ → Published
ended p out =
    cond (eqb p.reader.status reading)
    (cond (inside p) (halted p ended_early)
    (cond (fits (missing p) p.reader.written out) (finished p (length (missing p))) (halted p no_room)))
    p

unfoldable pub ended_out : Published → List ℕ → List ℕ
ended_out p out =
    cond (eqb p.reader.status reading)
    (cond (inside p) out (put_bytes (missing p) p.reader.written out))
    out

-- What the last call leaves.
abbrev pub end_of : Run Published → Run Published
end_of x = record { reader = ended x.reader x.out; out = ended_out x.reader x.out }

-- What stands, as for a text.
abbrev pub told : Published → Outcome
told p = lines.told p.reader

-- The whole file in one call, then its end.
abbrev pub whole : List ℕ → List ℕ → Run Published
whole file out = end_of (run begun_file out file)
