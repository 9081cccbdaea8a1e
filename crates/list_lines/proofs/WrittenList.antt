-- What is printed for two series and a window has room, and is what the functions that write it leave in the output. Assumes nothing.
use mathlib.Core.Path.{◌≡◌, refl, sym, subst, ◌∙◌}
use mathlib.Core.List.{List, [], ◌++◌, append_assoc}
use Rattle.std.proofs.lemmas.List.{append-nil}
use Prim.Native.Nat.{ℕ, zero, suc, ◌+◌, ◌*◌, ◌/◌, ◌-◌, ◌≤◌, ◌<◌}
use native.Mathlib.Omega.{arith}
use lib.IntN.{ℤ}
use lib.ListN.{length, length-append}
use Rattle.units.specs.declared.Instant.{Instant}
use Rattle.units.specs.declared.Refusal.{Refusal}
use Rattle.std.specs.Prelude.{Err, IfOk, Ok, Result}
use Rattle.decimals.specs.Texts.{text}
use Rattle.refusal_words.specs.Words.{refusal_text}
use Rattle.refusal_words.proofs.WrittenWords.{refusal_length}
use Rattle.sunlist.specs.Demand.{first_minute, last_minute}
use Rattle.sunlist.specs.SunList.{sun_list, sun_list_out}
use Rattle.sunlist.proofs.Call.{sun_list_promised}
use Rattle.list_lines.specs.Lines.{run_text, run_most}
use Rattle.list_lines.specs.List.{run_lines, runs_text, answer_text, lent_numbers, list_text, most_runs, list_most}
use Rattle.list_lines.proofs.WrittenRuns.{run_length}

-- ---- lengths
lines_length : (start : ℕ) (numbers : List ℕ) (i n : ℕ) → length (run_lines start numbers i n) ≤ n * run_most
unfolding run_lines
lines_length start numbers i zero = omega arith
lines_length start numbers i (suc n) =
    let l = run_length start (first_minute numbers i) (last_minute numbers i) in
    let m = lines_length start numbers (suc i) n in
    simp length-append (omega arith)

runs_length : (start : ℕ) (numbers : List ℕ) (n : ℕ) → n ≤ most_runs → length (runs_text start numbers n) ≤ list_most
unfolding runs_text text
runs_length start numbers zero h = omega arith
runs_length start numbers (suc n) h = omega (arith, lines_length start numbers 0 (suc n))

-- A list that is answered has no more runs than a day can have.
few_runs : (planet earth : List ℕ) (t0 : Instant) (minutes keep_out : ℤ) (count : ℕ)
    → sun_list planet earth t0 minutes keep_out (length lent_numbers) ≡ Ok count → count / 2 ≤ most_runs
few_runs planet earth t0 minutes keep_out count e =
    let p = sun_list_promised planet earth t0 minutes keep_out lent_numbers _ _ refl refl in
    omega (arith, p.few count e)

answer_length : (planet earth : List ℕ) (t0 : Instant) (minutes keep_out : ℤ) (start : ℕ) (numbers : List ℕ) (a : Result ℕ Refusal)
    → sun_list planet earth t0 minutes keep_out (length lent_numbers) ≡ a → length (answer_text start numbers a) ≤ list_most
unfolding answer_text
answer_length planet earth t0 minutes keep_out start numbers (Ok count) e =
    runs_length start numbers (count / 2) (few_runs planet earth t0 minutes keep_out count e)
answer_length planet earth t0 minutes keep_out start numbers (Err r) e = omega (arith, refusal_length r)

pub list_length : (planet earth : List ℕ) (from : Result Instant Refusal) (start : ℕ) (minutes keep_out : ℤ)
    → length (list_text planet earth from start minutes keep_out) ≤ list_most
unfolding list_text
list_length planet earth (Ok t0) start minutes keep_out = answer_length planet earth t0 minutes keep_out start _ _ refl
list_length planet earth (Err r) start minutes keep_out = omega (arith, refusal_length r)

-- ---- the lines of the runs: what is written and what is left to write are all
pub record LinesLeft (start : ℕ) (numbers : List ℕ) (runs : ℕ) (begun out : List ℕ) (i : ℕ) : Type 0 where
  pub room : length out ≤ length begun + i * run_most
  pub lines : out ++ run_lines start numbers i (runs - i) ≡ begun ++ run_lines start numbers 0 runs

pub left_none : (start : ℕ) (numbers : List ℕ) (runs : ℕ) (begun : List ℕ) → LinesLeft start numbers runs begun begun 0
left_none start numbers runs begun = let all : runs - 0 ≡ runs = omega arith in record { room = omega arith; lines = rw all }

module _ (start : ℕ) (numbers : List ℕ) (runs : ℕ) (begun out : List ℕ) (i : ℕ) (w : LinesLeft start numbers runs begun out i) where
  pub left_more : (next : List ℕ) → i < runs → next ≡ out ++ run_text start (first_minute numbers i) (last_minute numbers i)
      → LinesLeft start numbers runs begun next (i + 1)
  unfolding run_lines
  left_more next h p =
      let t : List ℕ = run_text start (first_minute numbers i) (last_minute numbers i) in
      let k : ℕ = runs - (i + 1) in
      let e : runs - i ≡ suc k = omega arith in
      let f : out ++ (t ++ run_lines start numbers (suc i) k) ≡ begun ++ run_lines start numbers 0 runs = rw e at w.lines in
      let Lines : ℕ → Type 0 = λ j. out ++ (t ++ run_lines start numbers j k) ≡ begun ++ run_lines start numbers 0 runs in
      record {
        room = rw p (omega (arith, w.room, length-append out t, run_length start (first_minute numbers i) (last_minute numbers i)));
        lines = rw p (append_assoc out t (run_lines start numbers (i + 1) k) ∙ subst Lines (omega arith) f);
      }

  pub left_last : runs ≤ i → out ≡ begun ++ run_lines start numbers 0 runs
  unfolding run_lines
  left_last h =
      let z : runs - i ≡ 0 = omega arith in
      let f : out ++ [] ≡ begun ++ run_lines start numbers 0 runs = rw z at w.lines in
      sym (append-nil out) ∙ f

-- ---- what is written
module _ (old new : List ℕ) where
  pub no_run : (start : ℕ) (numbers : List ℕ) (runs : ℕ) → runs ≡ 0 → new ≡ old ++ text "no minute\n"
      → new ≡ old ++ runs_text start numbers runs
  unfolding runs_text
  no_run start numbers runs e h = rw e h

  pub some_runs : (start : ℕ) (numbers : List ℕ) (runs : ℕ) → (runs ≡ 0 → ⊥) → new ≡ old ++ run_lines start numbers 0 runs
      → new ≡ old ++ runs_text start numbers runs
  unfolding runs_text
  some_runs start numbers zero e h = absurd (e refl)
  some_runs start numbers (suc n) e h = h

  pub runs_told : (start : ℕ) (numbers x : List ℕ) (a : Result ℕ Refusal) (count : ℕ) → answer_text start numbers a ≡ x → a ≡ Ok count
      → new ≡ old ++ runs_text start numbers (count / 2) → new ≡ old ++ x
  unfolding answer_text
  runs_told start numbers x a count e f h = rw (← e, f) h

  pub refusal_told : (start : ℕ) (numbers x : List ℕ) (a : Result ℕ Refusal) (r : Refusal) → answer_text start numbers a ≡ x → a ≡ Err r
      → new ≡ old ++ refusal_text r → new ≡ old ++ x
  unfolding answer_text
  refusal_told start numbers x a r e f h = rw (← e, f) h

-- ---- the list from an instant on, and the refusal of one
module _ (planet earth : List ℕ) (from : Result Instant Refusal) (start : ℕ) (minutes keep_out : ℤ) where
  pub at_instant : (t0 : Instant) (numbers : List ℕ) (a : Result ℕ Refusal) → from ≡ Ok t0 → numbers ≡ sun_list_out planet earth t0 minutes keep_out lent_numbers
      → a ≡ sun_list planet earth t0 minutes keep_out (length lent_numbers)
      → answer_text start numbers a ≡ list_text planet earth from start minutes keep_out
  unfolding list_text
  at_instant t0 numbers a e f h = rw (e, f, h)

  pub no_instant : (numbers : List ℕ) (r : Refusal) → from ≡ Err r → answer_text start numbers (Err r) ≡ list_text planet earth from start minutes keep_out
  unfolding list_text answer_text
  no_instant numbers r e = rw e

-- ---- what holds of each count that is answered
pub if_answered : (a : Result ℕ Refusal) (P : ℕ → Type 0) → ((n : ℕ) → a ≡ Ok n → P n) → IfOk a P
if_answered (Ok n) P h = h n refl
if_answered (Err r) P h = tt
