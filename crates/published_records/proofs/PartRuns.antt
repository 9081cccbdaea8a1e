-- Digits after a decimal's point, taken in a run, leave what a step for each leaves. Assumes nothing.
use mathlib.Core.Path.{◌≡◌, refl, sym, ap, subst, ◌∙◌}
use mathlib.Core.Bool.{false}
use mathlib.Core.List.{List}
use Prim.Native.Nat.{ℕ, ◌+◌, ◌*◌, ◌-◌, ◌≤◌, ◌<◌}
use native.Mathlib.Omega.{arith}
use borrow.Author.Tests.{ltb-true, ltb-false, leb-true, leb-false}
use lib.Dec.{leb, ltb}
use lib.ListN.{length, get_or}
use Rattle.std.proofs.lemmas.Bool.Decides.{nat_tests}
use Rattle.integers.proofs.Tests.{by_cases}
use Rattle.series_lines.specs.declared.Line.{Line}
use Rattle.series_lines.specs.Grammar.{digit_0, part_digits}
use Rattle.series_lines.specs.Lexer.{spot_done, put, lex}
use Rattle.series_lines.specs.Machine.Parts.{run_end, RunStop, PartAt, Digits, none, more, DigitRun}
use Rattle.series_lines.proofs.DigitRuns.{short, lex_part}
use Rattle.published_records.specs.declared.Row.{Row}
use Rattle.published_records.specs.declared.Column.TheVariants.{Part}
use Rattle.published_records.specs.Layout.{a_first, a_last, b_first, b_last, c_first, c_last}
use Rattle.published_records.specs.Rows.{column_limit, decimal_column, term_column, next_column, moved, in_column, lex_term, lex_row}
use Rattle.published_records.specs.Machine.Runs.{Takes}
use Rattle.published_records.specs.Machine.Parts.{parts_left, part_columns, PartsAhead, row_at}
use Rattle.published_records.proofs.Places.{next_one, not_entered, column_a, column_b, column_c}
use Rattle.published_records.proofs.ByteRuns.{takes_none, takes_one, takes_then}

-- ---- Columns of parts.

pub record PartColumn (k : ℕ) : Type 0 where
  pub kind : term_column k ≡ Part
  pub not_a : k ≡ a_first → ⊥
  pub not_b : k ≡ b_first → ⊥
  pub not_c : k ≡ c_first → ⊥
  pub below : k < column_limit

decimal_part : (m : ℕ) → m < part_digits → decimal_column m ≡ Part
unfolding decimal_column
decimal_part m h = grind (arith, nat_tests)

-- The last columns of a field that ends there take parts.
in_field : (last k : ℕ) → term_column k ≡ decimal_column (last - k) → last < k + part_digits → k ≤ last → a_first + part_digits ≤ last → last ≤ c_last
    → (b_first ≤ last → b_first + part_digits ≤ last) → (c_first ≤ last → c_first + part_digits ≤ last) → PartColumn k
in_field last k e p h a m b c =
    record {
      kind = e ∙ decimal_part (last - k) (omega arith);
      not_a = λ q. omega (arith, q);
      not_b = λ q. let g = b (omega (arith, q)) in omega (arith, q, g);
      not_c = λ q. let g = c (omega (arith, q)) in omega (arith, q, g);
      below = omega arith;
    }

-- Fewer columns on than a field has of them.
left_small : (m n : ℕ) → n < parts_left m → (m < part_digits) × (n ≤ m)
unfolding parts_left
left_small m n h =
    by_cases (ltb m part_digits) (λ p. let g : n < m + 1 = rw p at h in (ltb-true _ _ p, omega arith))
    (λ p. let g : n < 0 = rw p at h in absurd (omega arith))

part_column : (c n : ℕ) → n < part_columns c → PartColumn (c + n)
unfolding part_columns
part_column c n h =
    by_cases (ltb c a_first) (λ p. let g : n < 0 = rw p at h in absurd (omega arith))
    (λ p. let after : a_first ≤ c = ltb-false _ _ p in by_cases (leb c a_last)
    (λ q. let before : c ≤ a_last = leb-true _ _ q in let few = left_small (a_last - c) n (rw (p, q) at h) in
    in_field a_last (c + n) (column_a (c + n) (omega arith) (omega (arith, few)))
    (omega (arith, few)) (omega (arith, few)) (omega arith) (omega arith) (λ g. omega (arith, g)) (λ g. omega (arith, g)))
    (λ q. let past_a : a_last < c = leb-false _ _ q in by_cases (leb c b_last)
    (λ s. let before : c ≤ b_last = leb-true _ _ s in let few = left_small (b_last - c) n (rw (p, q, s) at h) in
    in_field b_last (c + n) (column_b (c + n) (omega arith) (omega (arith, few)))
    (omega (arith, few)) (omega (arith, few)) (omega arith) (omega arith) (λ g. omega arith) (λ g. omega (arith, g)))
    (λ s. let past_b : b_last < c = leb-false _ _ s in by_cases (leb c c_last)
    (λ t. let before : c ≤ c_last = leb-true _ _ t in let few = left_small (c_last - c) n (rw (p, q, s, t) at h) in
    in_field c_last (c + n) (column_c (c + n) (omega arith) (omega (arith, few)))
    (omega (arith, few)) (omega (arith, few)) (omega arith) (omega arith) (λ g. omega arith) (λ g. omega arith))
    (λ t. let g : n < 0 = rw (p, q, s, t) at h in absurd (omega arith)))))

-- ---- A digit.

step_part : (r : Row) (byte : ℕ) → PartColumn r.column → lex_row false r byte ≡ moved r (lex r.line byte)
unfolding lex_row lex_term in_column
step_part r byte p = rw (p.kind, not_entered r p.not_a p.not_b p.not_c)

-- ---- Runs.

-- The digits before i have come.
pub record Parted (r : Row) (text : List ℕ) (from spot value i : ℕ) : Type 0 where
  pub spots : spot ≡ r.line.spot + (i - from)
  pub most : spot ≤ spot_done
  pub takes : Takes false r text from (row_at r spot value) i

-- A row is what its words are.
rebuilt : (r : Row) (column : ℕ) → column ≡ r.column
    → record { column = column; line = r.line; version = r.version; coordinate = r.coordinate; power = r.power; number = r.number } ≡ r
rebuilt r column e = rw e

parted_first : (r : Row) (text : List ℕ) (from : ℕ) → PartsAhead r → Parted r text from r.line.spot r.line.value from
parted_first r text from a =
    let e = rebuilt r (r.column + (r.line.spot - r.line.spot)) (omega arith) in
    record {
      spots = omega arith;
      most = omega (arith, a.early);
      takes = rw e (takes_none false r text from);
    }

module _ (r : Row) (text : List ℕ) (from spot value i stop : ℕ) (a : PartsAhead r) (t : RunStop text from r.line.spot r.line.minus stop)
    (p : Parted r text from spot value i) where
  parted_next : PartAt text i stop value → Parted r text from (spot + 1) (10 * value + (get_or text i 0 - digit_0)) (i + 1)
  parted_next d =
      let l = r.line in
      let before : spot < run_end l.minus = omega (arith, p.takes.onward, p.spots, d.early, t.short) in
      let inside : i < length text = omega (arith, d.early, t.within) in
      let byte = get_or text i 0 in
      let next = 10 * value + (byte - digit_0) in
      let early : spot < spot_done = omega (arith, before, short l.minus) in
      let on : l.spot ≤ spot = omega (arith, p.spots) in
      let s = row_at r spot value in
      let k = part_column r.column (spot - l.spot) (omega (arith, a.room, early, on)) in
      let c : r.column + (spot + 1 - l.spot) ≡ r.column + (spot - l.spot) + 1 = omega arith in
      let with : ℕ → Line → Row = λ (n : ℕ) (m : Line).
      record { column = n; line = m; version = r.version; coordinate = r.coordinate; power = r.power; number = r.number } in
      let q = lex_part (put l spot l.minus value) byte (omega (arith, a.begun, on)) before d.small d.least d.most in
      let e : row_at r (spot + 1) next ≡ lex_row false s byte =
      ap (λ (n : ℕ). with n (put l (spot + 1) l.minus next)) (c ∙ sym (next_one (r.column + (spot - l.spot)) k.below))
      ∙ ap (with (next_column (r.column + (spot - l.spot)))) q
      ∙ sym (step_part s byte k) in
      let one = takes_one false s (row_at r (spot + 1) next) text i byte inside refl e
      (λ z. omega (arith, z, d.least)) (λ z. omega (arith, z, early)) in
      record {
        spots = omega (arith, p.spots, p.takes.onward);
        most = omega (arith, early);
        takes = takes_then false r s (row_at r (spot + 1) next) text from i (i + 1) p.takes one;
      }

-- The loop holds only the value and i: the spot follows from i.
abbrev pub RunParted : Row → List ℕ → ℕ → ℕ → ℕ → Type 0
RunParted r text from value i = Parted r text from (r.line.spot + (i - from)) value i

parted_none : (r : Row) (text : List ℕ) (from : ℕ) → PartsAhead r → RunParted r text from r.line.value from
parted_none r text from a =
    let e : r.line.spot ≡ r.line.spot + (from - from) = omega arith in
    subst (λ (n : ℕ). Parted r text from n r.line.value from) e (parted_first r text from a)

parted_more : (r : Row) (text : List ℕ) (from value i stop : ℕ) → PartsAhead r → RunStop text from r.line.spot r.line.minus stop
    → RunParted r text from value i → PartAt text i stop value → RunParted r text from (10 * value + (get_or text i 0 - digit_0)) (i + 1)
parted_more r text from value i stop a t p d =
    let e : r.line.spot + (i - from) + 1 ≡ r.line.spot + (i + 1 - from) = omega (arith, p.takes.onward) in
    subst (λ (n : ℕ). Parted r text from n (10 * value + (get_or text i 0 - digit_0)) (i + 1)) e
    (parted_next r text from (r.line.spot + (i - from)) value i stop a t p d)

-- So all digits of a run have come.
parted_all : (r : Row) (text : List ℕ) (from : ℕ) → PartsAhead r → {stop next after : ℕ} → RunStop text from r.line.spot r.line.minus stop
    → Digits text stop from r.line.value next after → RunParted r text from after next
parted_all r text from a k none = parted_none r text from a
parted_all r text from a k (more d p) = parted_more r text from _ _ _ a k (parted_all r text from a k d) p

pub parted : (r : Row) (text : List ℕ) (from : ℕ) → PartsAhead r → {next after : ℕ}
    → DigitRun text from r.line.spot r.line.minus r.line.value next after → RunParted r text from after next
parted r text from a d = parted_all r text from a d.ends d.digits

-- The column stays small.
pub come_small : (r : Row) (spot : ℕ) → PartsAhead r → r.line.spot ≤ spot → spot ≤ spot_done → r.column + (spot - r.line.spot) ≤ column_limit
come_small r spot a p q =
    let k = part_column r.column (spot - r.line.spot - 1) (omega (arith, a.early, a.room)) in
    omega (arith, k.below)
