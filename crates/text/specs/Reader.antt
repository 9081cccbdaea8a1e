-- The reader of a text (RULES, "Series, as text and packed" and "Refusals and what they leave"). A call folds the step of one byte over
-- its bytes, so how the text is cut into calls cannot matter.
use Rattle.std.specs.Prelude.{cond, List, [], ◌≡◌, ℕ, ◌≤◌, eqb, length}
use Rattle.std.proofs.lemmas.List.Edits.{sets}
use Rattle.units.specs.Refusals.{bad_byte, ended_early, byte_after_end}
use Rattle.packed.specs.Series.{pack}
use Rattle.series_lines.specs.declared.Reader.{Reader}
use Rattle.series_lines.specs.Grammar.{feed, Block, blocks_bytes, blocks_of_lines, GoodText, InLimits}
use Rattle.series_lines.specs.Lexer.{lex, whole_count, whole_term, spot_after, spot_bad}
use Rattle.series_lines.specs.Judge.{Verdict, tally, count_end, term_end}
use Rattle.series_lines.specs.Calls as fold
pub use Rattle.series_lines.specs.Reader.{begun}
use Rattle.series_lines.specs.Reader.{reading, accepted, stopped, further_in_line, wrote, wrote_out, last_offset, uncounted}

-- A line feed that comes too early.
abbrev pub early_end : Reader → Verdict
early_end r = record { refusal = bad_byte; bytes = []; blocks = r.blocks; left = r.left; tally = tally r }

-- A line feed, by what the line is.
unfoldable pub verdict : Reader → Verdict
verdict r = cond (whole_count r.line) (count_end r) (cond (whole_term r.line) (term_end r) (early_end r))

-- A byte that is no line feed: a bad byte where it cannot continue the line.
unfoldable pub other : Reader → ℕ → Reader
other r byte = cond (eqb (lex r.line byte).spot spot_bad) (stopped r bad_byte) (further_in_line r (lex r.line byte))

-- The reader after one byte, given what a line feed leads to. One that has stopped stays as it is; after block 18 every byte is refused.
abbrev pub stepped : Reader → ℕ → Reader → Reader
stepped r byte fed =
    cond (eqb r.status reading)
    (cond (uncounted r) (stopped r bad_byte)
    (cond (eqb r.line.spot spot_after) (stopped r byte_after_end)
    (cond (eqb byte feed) fed (other r byte))))
    r

-- The reader after one byte.
unfoldable pub step : Reader → List ℕ → ℕ → Reader
step r out byte = stepped r byte (wrote r out (verdict r))

-- The output after one byte.
unfoldable pub step_out : Reader → List ℕ → ℕ → List ℕ
step_out r out byte =
    cond (eqb r.status reading)
    (cond (uncounted r) out
    (cond (eqb r.line.spot spot_after) out
    (cond (eqb byte feed) (wrote_out r out (verdict r)) out)))
    out

-- What a call leaves: the reader and the output.
abbrev pub Run : Type 0
Run = fold.Run Reader

-- A call, with its bytes: the step folded over them.
unfoldable pub run : Reader → List ℕ → List ℕ → Run
unfolding fold.run
run = fold.run step step_out

-- The last call: accepted after block 18, else refused with the number of bytes.
unfoldable pub ended : Reader → Reader
ended r = cond (eqb r.status reading) (stopped r (cond (eqb r.line.spot spot_after) accepted ended_early)) r

-- The whole text in one call, then its end.
abbrev pub whole : List ℕ → List ℕ → Run
whole text out = record { reader = ended (run begun out text).reader; out = (run begun out text).out }

-- Some calls, one after the other; each may have any bytes or none.
unfoldable pub calls : Reader → List ℕ → List (List ℕ) → Run
unfolding fold.run fold.calls
calls = fold.calls step step_out

-- What an acceptance with n bytes says: the text is lines of the grammar within the limits, and the output holds exactly their packed form.
pub record Reads (text out : List ℕ) (n : ℕ) : Type 0 where
  pub ks : List Block
  pub good : GoodText ks
  pub limits : InLimits ks
  pub is : text ≡ blocks_bytes ks
  pub counted : length text ≤ last_offset
  pub long : n ≡ length (pack (blocks_of_lines ks))
  pub room : n ≤ length out
  pub written : (whole text out).out ≡ sets out 0 (pack (blocks_of_lines ks))
