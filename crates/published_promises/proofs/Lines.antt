-- The reader of published files, a record at a time: bytes within a record, and a reader that has stopped. Assumes nothing.
use mathlib.Core.Path.{◌≡◌, refl, sym, ap, ◌∙◌}
use mathlib.Core.Bool.{Bool, false}
use mathlib.Core.List.{List, [], ◌∷◌, ◌++◌}
use Prim.Native.Nat.{ℕ, zero, suc, ◌+◌, ◌≤◌, ◌<◌}
use native.Mathlib.Nat.{add-zero}
use native.Mathlib.Omega.{arith}
use borrow.Author.Tests.{eq-eqb, ne_eqb}
use lib.Dec.{ltb, eqb}
use lib.ListN.{length}
use Rattle.units.specs.Units.{block_count}
use Rattle.units.specs.Refusals.{bad_byte}
use Rattle.limits.specs.declared.Tally.{Tally}
use Rattle.series_lines.specs.Grammar.{feed}
use Rattle.series_lines.specs.Lexer.{spot_bad, fresh}
use Rattle.series_lines.specs.Reader.{last_offset, next_spot, wrote_out, uncounted}
use Rattle.series_lines.specs.Calls as calls_of
use Rattle.series_lines.proofs.Calls as folds
use Rattle.published_records.specs.declared.Row.{Row}
use Rattle.published_records.specs.Layout.{NoFeed}
use Rattle.published_records.specs.Rows.{fresh_row, column_limit}
use Rattle.published_records.specs.Rows.{lex_row, lex_rows}
use Rattle.published.specs.declared.Published.{Published}
use Rattle.published.specs.Reader.{at_heading, halted, other, verdict, judged, complete, step, step_out, run}
use Rattle.published_promises.specs.Decided.{Awaits}
use Rattle.integers.proofs.Tests.{by_cases}
use Rattle.published_promises.proofs.RowLaws.{rows_append, rows_bad, held, rows_column}

-- ---- A call, a byte at a time.

pub run_none : (p : Published) (out : List ℕ) → run p out [] ≡ record { reader = p; out = out }
run_none p out = unfold calls_of.run in refl

pub run_one : (p : Published) (out : List ℕ) (x : ℕ) (xs : List ℕ) → run p out (x ∷ xs) ≡ run (step p out x) (step_out p out x) xs
run_one p out x xs = unfold calls_of.run in refl

-- A reader that has stopped stays so.
module _ (p : Published) (h : p.reader.status ≡ 0 → ⊥) where
  pub keeps : (out : List ℕ) (byte : ℕ) → step p out byte ≡ p
  unfolding step
  keeps out byte = rw (ne_eqb p.reader.status 0 h)

  pub keeps_out : (out : List ℕ) (byte : ℕ) → step_out p out byte ≡ out
  unfolding step_out
  keeps_out out byte = rw (ne_eqb p.reader.status 0 h)

  pub stays : (out xs : List ℕ) → run p out xs ≡ record { reader = p; out = out }
  stays out xs = folds.stays step step_out p keeps keeps_out out xs

-- ---- Within a record.

-- The reader before the byte at an offset: w bytes written, k blocks, n terms left of the last, the running number m and the tally s.
abbrev pub in_record : ℕ → ℕ → ℕ → ℕ → ℕ → Tally → Row → Published
in_record at w k n m s row =
    record {
      reader =
          record {
            line = fresh (next_spot k n);
            at = at;
            written = w;
            blocks = k;
            left = n;
            terms = s.terms;
            total = s.total;
            coarse = s.coarse;
            status = 0;
            place = 0;
          };
      row = row;
      last = m;
    }

-- At the beginning of one.
abbrev pub st : ℕ → ℕ → ℕ → ℕ → ℕ → Tally → Published
st at w k n m s = in_record at w k n m s fresh_row

-- The record that comes next is a heading.
abbrev pub kind : ℕ → Bool
kind n = eqb n 0

-- The series is not whole.
not_complete : (k n : ℕ) → Awaits k n → eqb (next_spot k n) 30 ≡ false
unfolding next_spot
not_complete k zero a = rw (ne_eqb k block_count (λ e. omega (arith, e, a refl)))
not_complete k (suc n) a = rw (ne_eqb (suc n) 0 (λ e. omega (arith, e)))

module _ (at w k n m : ℕ) (s : Tally) (row : Row) (out : List ℕ) (awaits : Awaits k n) (counts : at ≡ last_offset → ⊥) where
  pub step_in : (byte : ℕ) → (byte ≡ feed → ⊥) → ((lex_row (kind n) row byte).line.spot ≡ spot_bad → ⊥)
      → (step (in_record at w k n m s row) out byte ≡ in_record (at + 1) w k n m s (lex_row (kind n) row byte))
      × (step_out (in_record at w k n m s row) out byte ≡ out)
  unfolding step step_out uncounted complete other at_heading
  step_in byte h g =
      let u = ne_eqb at last_offset counts in
      let v = not_complete k n awaits in
      let y = ne_eqb byte feed h in
      (rw (u, v, y, ne_eqb (lex_row (kind n) row byte).line.spot spot_bad g), rw (u, v, y))

  pub step_bad : (byte : ℕ) → (byte ≡ feed → ⊥) → (lex_row (kind n) row byte).line.spot ≡ spot_bad
      → (step (in_record at w k n m s row) out byte ≡ halted (in_record at w k n m s row) bad_byte)
      × (step_out (in_record at w k n m s row) out byte ≡ out)
  unfolding step step_out uncounted complete other at_heading
  step_bad byte h g =
      let u = ne_eqb at last_offset counts in
      let v = not_complete k n awaits in
      let y = ne_eqb byte feed h in
      (rw (u, v, y, eq-eqb (lex_row (kind n) row byte).line.spot spot_bad g), rw (u, v, y))

  pub step_feed : (step (in_record at w k n m s row) out feed ≡ judged (in_record at w k n m s row) out)
      × (step_out (in_record at w k n m s row) out feed
      ≡ wrote_out (in_record at w k n m s row).reader out (verdict (in_record at w k n m s row)))
  unfolding step step_out uncounted complete
  step_feed =
      let u = ne_eqb at last_offset counts in
      let v = not_complete k n awaits in
      (rw (u, v), rw (u, v))

-- ---- A record, byte by byte.

-- With one byte more.
pub one_more : (b : Bool) (xs : List ℕ) (r : Row) (byte : ℕ) → lex_rows b r (xs ++ (byte ∷ [])) ≡ lex_row b (lex_rows b r xs) byte
unfolding lex_rows
one_more b xs r byte = rows_append b r xs (byte ∷ [])

-- One of which something has come is past its first column.
pub begun_past : (b : Bool) (x : ℕ) (xs : List ℕ) → 1 < (lex_rows b fresh_row (x ∷ xs)).column
unfolding held
begun_past b x xs =
    rw (rows_column b fresh_row (x ∷ xs) (omega arith))
    (by_cases (ltb (1 + length (x ∷ xs)) column_limit) (λ p. rw p (omega arith)) (λ p. rw p (omega arith)))

-- ---- The bytes of a record that goes on.

pub row_run : (xs : List ℕ) (at w k n m : ℕ) (s : Tally) (row : Row) (out ys : List ℕ) → Awaits k n → at + length xs ≤ last_offset
    → NoFeed xs → ((lex_rows (kind n) row xs).line.spot ≡ spot_bad → ⊥)
    → run (in_record at w k n m s row) out (xs ++ ys) ≡ run (in_record (at + length xs) w k n m s (lex_rows (kind n) row xs)) out ys
unfolding lex_rows NoFeed
row_run [] at w k n m s row out ys a c f g = ap (λ (i : ℕ). run (in_record i w k n m s row) out ys) (sym (add-zero at))
row_run (x ∷ xs) at w k n m s row out ys a c f g =
    let live : (lex_row (kind n) row x).line.spot ≡ spot_bad → ⊥ = λ e. g (rows_bad (kind n) (lex_row (kind n) row x) xs e) in
    let t = step_in at w k n m s row out a (λ e. omega (arith, e)) x f.0 live in
    let e : at + 1 + length xs ≡ at + suc (length xs) = omega arith in
    run_one (in_record at w k n m s row) out x (xs ++ ys)
    ∙ ap (λ (o : List ℕ). run (step (in_record at w k n m s row) out x) o (xs ++ ys)) t.1
    ∙ ap (λ (q : Published). run q out (xs ++ ys)) t.0
    ∙ row_run xs (at + 1) w k n m s (lex_row (kind n) row x) out ys a (omega arith) f.1 g
    ∙ ap (λ (i : ℕ). run (in_record i w k n m s (lex_rows (kind n) (lex_row (kind n) row x) xs)) out ys) e
