-- What each way through the reader's code gives, over plain values. Assumes nothing.
use mathlib.Core.Path.{◌≡◌, refl, ◌∙◌}
use mathlib.Core.Bool.{Bool, true, false, cond}
use mathlib.Core.List.{List, [], ◌∷◌}
use Prim.Native.Nat.{ℕ, ◌+◌, ◌≤◌, ◌<◌}
use borrow.Author.Tests.{eq-eqb, ne_eqb}
use lib.Dec.{eqb}
use lib.ListN.{length, get_or, drop}
use Rattle.units.specs.Refusals.{bad_byte}
use Rattle.series_lines.specs.declared.Line.{Line}
use Rattle.series_lines.specs.declared.Reader.{Reader}
use Rattle.series_lines.specs.Lexer.{lex, whole_count, whole_term}
use Rattle.series_lines.specs.Judge.{count_end, term_end}
use Rattle.series_lines.specs.Reader.{last_offset, further_in_line, uncounted}
use Rattle.series_lines.proofs.Branches.{line_wrote, line_judged}
use Rattle.series_lines.proofs.Calls as fold
use Rattle.text.specs.Reader.{verdict, other, step, step_out, run}
use Rattle.text.specs.Judge.{judge_step, judge}
use Rattle.text.specs.Machine.Modes.{moved, moved_out, passed}

-- A line feed, by what the line is.
pub verdict_count : (r : Reader) → whole_count r.line ≡ true → verdict r ≡ count_end r
unfolding verdict
verdict_count r p = rw p

pub verdict_term : (r : Reader) → whole_count r.line ≡ false → whole_term r.line ≡ true → verdict r ≡ term_end r
unfolding verdict
verdict_term r p q = rw (p, q)

pub verdict_early : (r : Reader) → whole_count r.line ≡ false → whole_term r.line ≡ false → (verdict r).refusal ≡ bad_byte
unfolding verdict
verdict_early r p q = rw (p, q)

-- A byte that is no line feed.
pub other_good : (r : Reader) (l : Line) (byte : ℕ) → l ≡ lex r.line byte → (l.spot ≡ 31 → ⊥) → further_in_line r l ≡ other r byte
unfolding other
other_good r l byte e h = rw (← e, ne_eqb l.spot 31 h)

-- One byte that is no line feed.
pub moved_other : (writes : Bool) (r s : Reader) (out : List ℕ) (byte : ℕ) → r.status ≡ 0 → (r.at ≡ last_offset → ⊥) → (r.line.spot ≡ 30 → ⊥)
    → (byte ≡ 10 → ⊥) → s ≡ other r byte → (s ≡ moved writes r out byte) × (out ≡ moved_out writes r out byte)
unfolding moved moved_out uncounted
moved_other writes r s out byte going counts inside h e =
    let g = eq-eqb r.status 0 going in
    let t = ne_eqb r.at last_offset counts in
    let u = ne_eqb r.line.spot 30 inside in
    let v = ne_eqb byte 10 h in (rw (g, t, u, v) e, rw (g, t, u, v))

-- A turn of the loop over a piece: what is left to run.
module _ (writes : Bool) where
  pub pass_more : (r s : Reader) (out after bytes : List ℕ) (i byte : ℕ) → byte ≡ get_or bytes i 0 → i < length bytes
      → s ≡ moved writes r out byte → after ≡ moved_out writes r out byte → passed writes r out (drop i bytes) ≡ passed writes s after (drop (i + 1) bytes)
  unfolding passed
  pass_more = fold.run_more (moved writes) (moved_out writes)

  pub pass_end : (r : Reader) (out bytes : List ℕ) (i : ℕ) → length bytes ≤ i → passed writes r out (drop i bytes) ≡ record { reader = r; out = out }
  unfolding passed
  pass_end = fold.run_end (moved writes) (moved_out writes)

-- A call that writes is a call of the reader.
move_writes : (r : Reader) (out : List ℕ) (byte : ℕ) → (moved true r out byte ≡ step r out byte) × (moved_out true r out byte ≡ step_out r out byte)
unfolding moved moved_out step step_out
move_writes r out byte = let w = line_wrote r out (verdict r) in (rw w.0, rw w.1)

pub pass_writes : (bytes : List ℕ) (r : Reader) (out : List ℕ) → passed true r out bytes ≡ run r out bytes
unfolding passed run
pass_writes [] r out = refl
pass_writes (byte ∷ bytes) r out = let m = move_writes r out byte in pass_writes bytes _ _ ∙ (rw (m.0, m.1))

-- One that does not write only judges.
move_judges : (r : Reader) (out : List ℕ) (byte : ℕ) → (moved false r out byte ≡ judge_step last_offset r byte) × (moved_out false r out byte ≡ out)
unfolding moved moved_out judge_step
move_judges r out byte =
    let j = line_judged r out (verdict r) in
    (rw j.0, same (eqb r.status 0) (same (uncounted r) refl (same (eqb r.line.spot 30) refl (same (eqb byte 10) j.1 refl))) refl)
  where
    same : (t : Bool) {x y : List ℕ} → x ≡ out → y ≡ out → cond t x y ≡ out
    same true e f = e
    same false e f = f

pub pass_judges : (bytes : List ℕ) (r : Reader) (out : List ℕ) → passed false r out bytes ≡ record { reader = judge last_offset r bytes; out = out }
unfolding passed judge
pass_judges [] r out = refl
pass_judges (byte ∷ bytes) r out = let m = move_judges r out byte in pass_judges bytes _ _ ∙ (rw (m.0, m.1))
