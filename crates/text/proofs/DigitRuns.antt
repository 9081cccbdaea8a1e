-- Digits after a decimal's point, taken in a run, leave what a step for each leaves. Assumes nothing.
use mathlib.Core.Path.{◌≡◌, refl, sym, ap, subst, ◌∙◌}
use mathlib.Core.Bool.{Bool}
use mathlib.Core.List.{List}
use Prim.Native.Nat.{ℕ, ◌+◌, ◌*◌, ◌-◌, ◌≤◌, ◌<◌}
use native.Mathlib.Omega.{arith}
use lib.ListN.{length, drop, get_or}
use Rattle.series_lines.specs.declared.Reader.{Reader}
use Rattle.series_lines.specs.Grammar.{digit_0, part_digits}
use Rattle.series_lines.specs.Lexer.{spot_point, value_limit, put}
use Rattle.series_lines.specs.Reader.{last_offset, in_line, further_in_line}
use Rattle.series_lines.specs.Machine.Parts.{run_end, RunStop, PartAt, Digits, none, more, DigitRun}
use Rattle.text.specs.Machine.Modes.{moved, moved_out, passed}
use Rattle.text.specs.Machine.Parts.{AfterPoint, GoesOn}
use Rattle.series_lines.proofs.DigitRuns.{short, lex_part}
use Rattle.text.proofs.Branches.{other_good, moved_other, pass_more}

-- A digit of a run is a step that goes on.
step_part : (writes : Bool) (r : Reader) (out : List ℕ) (byte : ℕ) → r.status ≡ 0 → r.at < last_offset → spot_point ≤ r.line.spot
    → r.line.spot < run_end r.line.minus → r.line.value < value_limit → digit_0 ≤ byte → byte < digit_0 + 10
    → let l = r.line in let s = further_in_line r (put l (l.spot + 1) l.minus (10 * l.value + (byte - digit_0)))
    in (s ≡ moved writes r out byte) × (out ≡ moved_out writes r out byte)
step_part writes r out byte e c h k v f g =
    let l = r.line in
    let m = short l.minus in
    moved_other writes r _ out byte e (λ q. omega (arith, q)) (λ q. omega (arith, q)) (λ q. omega (arith, q))
    (other_good r (put l (l.spot + 1) l.minus (10 * l.value + (byte - digit_0))) byte (lex_part l byte h k v f g) (λ q. omega (arith, q)))

-- The digits before i have come: the line of r, now at spot with value, goes on from i as r does from the first of them.
pub record Parted (r : Reader) (text : List ℕ) (from spot value i : ℕ) : Type 0 where
  pub onward : from ≤ i
  pub spots : spot ≡ r.line.spot + (i - from)
  pub few : i - from ≤ part_digits
  pub same : (writes : Bool) (out : List ℕ)
      → passed writes (in_line r (put r.line spot r.line.minus value) (r.at + (i - from))) out (drop i text) ≡ passed writes r out (drop from text)

-- A reader is what its words are.
rebuilt : (r : Reader) (at status place : ℕ) → at ≡ r.at → status ≡ r.status → place ≡ r.place
    → record {
      line = r.line;
      at = at;
      written = r.written;
      blocks = r.blocks;
      left = r.left;
      terms = r.terms;
      total = r.total;
      coarse = r.coarse;
      status = status;
      place = place;
    } ≡ r
rebuilt r at status place e f g = rw (e, f, g)

parted_first : (r : Reader) (text : List ℕ) (from : ℕ) → AfterPoint r → Parted r text from r.line.spot r.line.value from
parted_first r text from a =
    record {
      onward = omega arith;
      spots = omega arith;
      few = omega arith;
      same = λ writes out.
          ap (λ (s : Reader). passed writes s out (drop from text))
          (rebuilt r (r.at + (from - from)) 0 0 (omega arith) (sym a.reads) (sym a.unplaced));
    }

module _ (r : Reader) (text : List ℕ) (from spot value i stop : ℕ) (a : AfterPoint r) (k : RunStop text from r.line.spot r.line.minus stop)
    (p : Parted r text from spot value i) where
  parted_next : PartAt text i stop value → Parted r text from (spot + 1) (10 * value + (get_or text i 0 - digit_0)) (i + 1)
  parted_next d =
      let l = r.line in
      let early : spot < run_end l.minus = omega (arith, p.onward, p.spots, d.early, k.short) in
      let inside : i < length text = omega (arith, d.early, k.within) in
      let byte = get_or text i 0 in
      let with : ℕ → Reader = λ (at : ℕ). in_line r (put l (spot + 1) l.minus (10 * value + (byte - digit_0))) at in
      let s = in_line r (put l spot l.minus value) (r.at + (i - from)) in
      let at : r.at + (i + 1 - from) ≡ r.at + (i - from) + 1 = omega arith in
      record {
        onward = omega arith;
        spots = omega arith;
        few = omega (arith, p.onward, p.spots, a.begun, early, short r.line.minus);
        same = λ writes out.
            let at_part : spot_point ≤ spot = omega (arith, p.spots, a.begun) in
            let counted : r.at + (i - from) < last_offset = omega (arith, p.spots, a.begun, a.counts, early, short l.minus) in
            let t = step_part writes s out byte refl counted at_part early d.small d.least d.most in
            ap (λ (n : ℕ). passed writes (with n) out (drop (i + 1) text)) at
            ∙ sym (pass_more writes s _ out out text i byte refl inside t.0 t.1)
            ∙ p.same writes out;
      }

-- The loop holds only the value and i: the spot follows from i.
abbrev pub RunParted : Reader → List ℕ → ℕ → ℕ → ℕ → Type 0
RunParted r text from value i = Parted r text from (r.line.spot + (i - from)) value i

parted_none : (r : Reader) (text : List ℕ) (from : ℕ) → AfterPoint r → RunParted r text from r.line.value from
parted_none r text from a =
    let e : r.line.spot ≡ r.line.spot + (from - from) = omega arith in
    subst (λ (n : ℕ). Parted r text from n r.line.value from) e (parted_first r text from a)

module _ (r : Reader) (text : List ℕ) (from value i : ℕ) (p : RunParted r text from value i) where
  parted_more : (stop : ℕ) → AfterPoint r → RunStop text from r.line.spot r.line.minus stop → PartAt text i stop value
      → RunParted r text from (10 * value + (get_or text i 0 - digit_0)) (i + 1)
  parted_more stop a k d =
      let e : r.line.spot + (i - from) + 1 ≡ r.line.spot + (i + 1 - from) = omega (arith, p.onward) in
      subst (λ (n : ℕ). Parted r text from n (10 * value + (get_or text i 0 - digit_0)) (i + 1)) e
      (parted_next r text from (r.line.spot + (i - from)) value i stop a k p d)

module _ (r : Reader) (text : List ℕ) (from : ℕ) (a : AfterPoint r) where
  -- So all digits of a run have come.
  parted_all : {stop next after : ℕ} → RunStop text from r.line.spot r.line.minus stop → Digits text stop from r.line.value next after
      → RunParted r text from after next
  parted_all k none = parted_none r text from a
  parted_all k (more d p) = parted_more r text from _ _ (parted_all k d) _ a k p

  module _ {next after : ℕ} (d : DigitRun text from r.line.spot r.line.minus r.line.value next after) where
    parted : RunParted r text from after next
    parted = parted_all d.ends d.digits

    pub run_few : next - from ≤ part_digits
    run_few = parted.few

    pub parted_done : GoesOn r text from (in_line r (put r.line (r.line.spot + (next - from)) r.line.minus after) (r.at + (next - from))) next
    parted_done = record { onward = parted.onward; same = parted.same }

-- Where no digit is taken all goes on as it stands.
pub as_it_stands : (r : Reader) (text : List ℕ) (from : ℕ) → GoesOn r text from r from
as_it_stands r text from = record { onward = omega arith; same = λ writes out. refl }
