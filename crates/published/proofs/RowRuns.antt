-- The bytes of a record that are taken in a run leave what a step for each leaves. Assumes nothing.
use mathlib.Core.Path.{◌≡◌, refl, sym, ap, ◌∙◌}
use mathlib.Core.Bool.{Bool, false}
use mathlib.Core.List.{List, [], ◌∷◌, ◌++◌}
use Prim.Native.Nat.{ℕ, suc, ◌+◌, ◌-◌, ◌≤◌}
use native.Mathlib.Omega.{arith}
use lib.ListN.{length, drop, take-append-drop, length-drop}
use lib.Seq.{length-take-le, drop-drop}
use Rattle.series_lines.specs.Grammar.{feed}
use Rattle.series_lines.specs.Lexer.{spot_bad}
use Rattle.series_lines.specs.Reader.{in_line}
use Rattle.series_lines.specs.Calls as calls_of
use Rattle.published_records.specs.declared.Row.{Row}
use Rattle.published_records.specs.Rows.{lex_row, lex_rows}
use Rattle.published_records.specs.Machine.Runs.{between, RunsOn, Takes}
use Rattle.published.specs.declared.Published.{Published}
use Rattle.published.specs.Reader.{at_heading, further, complete, step, step_out, run}
use Rattle.published.specs.Machine.Rows.{Counts, GoesOn}
use Rattle.published.proofs.Branches.{other_good, step_other}

-- The reader after n bytes of its record, which leave the row.
abbrev pub onward : Published → ℕ → Row → Published
onward p n row = record { reader = in_line p.reader p.reader.line (p.reader.at + n); row = row; last = p.last }

-- A reader is what its words are.
rebuilt : (p : Published) (at status place : ℕ) → at ≡ p.reader.at → status ≡ p.reader.status → place ≡ p.reader.place
    → record {
      reader = record {
        line = p.reader.line;
        at = at;
        written = p.reader.written;
        blocks = p.reader.blocks;
        left = p.reader.left;
        terms = p.reader.terms;
        total = p.reader.total;
        coarse = p.reader.coarse;
        status = status;
        place = place;
      };
      row = p.row;
      last = p.last;
    } ≡ p
rebuilt p at status place e f g = rw (e, f, g)

same_heading : (p : Published) (row : Row) → at_heading (further p row) ≡ at_heading p
unfolding at_heading
same_heading p row = refl

still : (p : Published) (row : Row) → complete p ≡ false → complete (further p row) ≡ false
unfolding complete
still p row e = e

-- One byte with which the record goes on.
one_step : (heading : Bool) (p : Published) (out : List ℕ) (byte : ℕ) → at_heading p ≡ heading → Counts p 1 → (byte ≡ feed → ⊥)
    → ((lex_row heading p.row byte).line.spot ≡ spot_bad → ⊥)
    → (further p (lex_row heading p.row byte) ≡ step p out byte) × (out ≡ step_out p out byte)
one_step heading p out byte e k h b =
    let row = lex_row heading p.row byte in
    step_other p _ out byte k.reads (λ q. omega (arith, q, k.counts)) k.goes_on h
    (other_good p row byte (ap (λ (t : Bool). lex_row t p.row byte) (sym e)) b)

one_run : (p q : Published) (out : List ℕ) (byte : ℕ) (bytes : List ℕ) → (q ≡ step p out byte) × (out ≡ step_out p out byte)
    → run q out bytes ≡ run p out (byte ∷ bytes)
unfolding calls_of.run
one_run p q out byte bytes s =
    ap (λ (r : Published). run r out bytes) s.0 ∙ ap (λ (o : List ℕ). run (step p out byte) o bytes) s.1

fewer : (p : Published) (n : ℕ) → Counts p (suc n) → Counts p 1
fewer p n k = record { reads = k.reads; unplaced = k.unplaced; goes_on = k.goes_on; counts = omega (arith, k.counts) }

one_less : (p : Published) (row : Row) (n : ℕ) → Counts p (suc n) → Counts (further p row) n
one_less p row n k = record { reads = refl; unplaced = refl; goes_on = still p row k.goes_on; counts = omega (arith, k.counts) }

-- Some bytes with which it goes on.
rows_run : (bytes rest : List ℕ) (heading : Bool) (p : Published) (out : List ℕ) → at_heading p ≡ heading → Counts p (length bytes)
    → RunsOn heading p.row bytes
    → run (onward p (length bytes) (lex_rows heading p.row bytes)) out rest ≡ run p out (bytes ++ rest)
unfolding RunsOn lex_rows
rows_run [] rest heading p out e k g =
    ap (λ (q : Published). run q out rest)
    (rebuilt p (p.reader.at + 0) 0 0 (omega arith) (sym k.reads) (sym k.unplaced))
rows_run (byte ∷ bytes) rest heading p out e k g =
    let row = lex_row heading p.row byte in
    let with : ℕ → Published = λ (n : ℕ).
    record { reader = in_line p.reader p.reader.line n; row = lex_rows heading row bytes; last = p.last } in
    let f : p.reader.at + suc (length bytes) ≡ p.reader.at + 1 + length bytes = omega arith in
    ap (λ (n : ℕ). run (with n) out rest) f
    ∙ rows_run bytes rest heading (further p row) out (same_heading p row ∙ e) (one_less p row (length bytes) k) g.1.1
    ∙ one_run p (further p row) out byte (bytes ++ rest) (one_step heading p out byte e (fewer p (length bytes) k) g.0 g.1.0)

-- The bytes from one index of a text to another.
between_length : (text : List ℕ) (from next : ℕ) → next ≤ length text → length (between text from next) ≡ next - from
between_length text from next h = length-take-le (next - from) (drop from text) (omega (arith, length-drop from text))

between_rest : (text : List ℕ) (from next : ℕ) → from ≤ next → between text from next ++ drop next text ≡ drop from text
between_rest text from next h =
    let e : from + (next - from) ≡ next = omega arith in
    ap (λ (xs : List ℕ). between text from next ++ xs) (sym (drop-drop (next - from) from text ∙ ap (λ (n : ℕ). drop n text) e))
    ∙ take-append-drop (next - from) (drop from text)

-- A run goes on where the reader can count the bytes of the text.
pub row_taken : (p : Published) (text : List ℕ) (from : ℕ) (heading : Bool) (row : Row) (next : ℕ) → at_heading p ≡ heading → from ≤ length text
    → Counts p (length text - from) → Takes heading p.row text from row next → GoesOn p text from (onward p (next - from) row) next
row_taken p text from heading row next e h k t =
    let xs = between text from next in
    let inside = t.inside h in
    let l = between_length text from next inside in
    let c : Counts p (length xs) =
    record { reads = k.reads; unplaced = k.unplaced; goes_on = k.goes_on; counts = omega (arith, k.counts, l, inside, h) } in
    record {
      onward = t.onward;
      same = λ out.
          ap (λ (r : Row). run (onward p (next - from) r) out (drop next text)) t.same
          ∙ ap (λ (n : ℕ). run (onward p n (lex_rows heading p.row xs)) out (drop next text)) (sym l)
          ∙ rows_run xs (drop next text) heading p out e c t.goes_on
          ∙ ap (λ (ys : List ℕ). run p out ys) (between_rest text from next t.onward);
    }
