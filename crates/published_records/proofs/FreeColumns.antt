-- Bytes in free columns, gone over in a run, leave what a step for each leaves. Assumes nothing.
use mathlib.Core.Path.{◌≡◌, refl, sym, ap, ◌∙◌}
use mathlib.Core.Bool.{Bool, true, false}
use mathlib.Core.List.{List, [], ◌∷◌}
use Prim.Native.Nat.{ℕ, zero, suc, ◌+◌, ◌-◌, ◌≤◌, ◌<◌}
use native.Mathlib.Omega.{arith}
use borrow.Author.Tests.{leb-false, eqb-false}
use lib.Dec.{leb, eqb}
use lib.ListN.{length, take, drop, length-drop}
use Rattle.std.specs.List.{position_or_len}
use Rattle.std.proofs.lemmas.List.{length-take, length-take-le, take-take}
use Rattle.std.proofs.lemmas.Bool.Decides.{nat_tests}
use Rattle.integers.proofs.Tests.{by_cases}
use Rattle.series_lines.specs.Grammar.{feed}
use Rattle.series_lines.specs.Lexer.{spot_bad}
use Rattle.published_records.specs.declared.Row.{Row}
use Rattle.published_records.specs.declared.Column.TheVariants.{Filler}
use Rattle.published_records.specs.Layout.{version_column, coordinate_column, power_column, count_first, count_last, number_first, number_last}
use Rattle.published_records.specs.Layout.{a_first, NoFeed}
use Rattle.published_records.specs.Rows.{column_limit, heading_column, term_column, next_column, moved, in_column, lex_heading, lex_term}
use Rattle.published_records.specs.Rows.{lex_row, lex_rows}
use Rattle.published_records.specs.Machine.Fillers.{heading_end, term_end, filler_end, held, put_column, Skips}
use Rattle.published_records.specs.Machine.Runs.{between, RunsOn}
use Rattle.published_records.proofs.Places.{next_one, not_entered}
use Rattle.published_records.proofs.ByteRuns.{takes_none, skips_taken}

-- ---- Free columns.

-- The n columns from c on are free.
pub data Clear : Bool → ℕ → ℕ → Type 0 where
  before_version : {c n : ℕ} → c + n ≤ version_column → Clear true c n
  before_coordinate : {c n : ℕ} → version_column < c → c + n ≤ coordinate_column → Clear true c n
  before_power : {c n : ℕ} → coordinate_column < c → c + n ≤ power_column → Clear true c n
  after_count : {c n : ℕ} → count_last < c → Clear true c n
  before_number : {c n : ℕ} → c + n ≤ number_first → Clear false c n
  before_a : {c n : ℕ} → number_last < c → c + n ≤ a_first → Clear false c n

-- Up to the first column that is not free.
clear_heading : (c n : ℕ) → 1 ≤ n → c + n ≤ heading_end c → Clear true c n
unfolding heading_end
clear_heading c n p h =
    by_cases (leb c version_column) (λ q. before_version (rw q at h))
    (λ q. by_cases (leb c coordinate_column) (λ s. before_coordinate (leb-false _ _ q) (rw (q, s) at h))
    (λ s. by_cases (leb c power_column) (λ t. before_power (leb-false _ _ s) (rw (q, s, t) at h))
    (λ t. by_cases (leb c count_last) (λ u. let z : c + n ≤ c = rw (q, s, t, u) at h in absurd (omega arith))
    (λ u. after_count (leb-false _ _ u)))))

clear_term : (c n : ℕ) → 1 ≤ n → c + n ≤ term_end c → Clear false c n
unfolding term_end
clear_term c n p h =
    by_cases (leb c number_first) (λ q. before_number (rw q at h))
    (λ q. by_cases (leb c number_last) (λ s. let z : c + n ≤ c = rw (q, s) at h in absurd (omega arith))
    (λ s. by_cases (leb c a_first) (λ t. before_a (leb-false _ _ s) (rw (q, s, t) at h))
    (λ t. let z : c + n ≤ c = rw (q, s, t) at h in absurd (omega arith))))

pub clear : (heading : Bool) (c n : ℕ) → 1 ≤ n → c + n ≤ filler_end heading c → Clear heading c n
unfolding filler_end
clear true c n p h = clear_heading c n p h
clear false c n p h = clear_term c n p h

-- ---- A byte in a free column.

heading_free : (c : ℕ) → (c ≡ version_column → ⊥) → (c ≡ coordinate_column → ⊥) → (c ≡ power_column → ⊥) → c < count_first → heading_column c ≡ Filler
unfolding heading_column
heading_free c p q s h = grind (arith, nat_tests)

heading_after : (c : ℕ) → count_last < c → heading_column c ≡ Filler
unfolding heading_column
heading_after c h = grind (arith, nat_tests)

term_free : (c : ℕ) → c < number_first → term_column c ≡ Filler
unfolding term_column
term_free c h = grind (arith, nat_tests)

term_before_a : (c : ℕ) → number_last < c → c < a_first → term_column c ≡ Filler
unfolding term_column
term_before_a c p h = grind (arith, nat_tests)

heading_step : (r : Row) (byte : ℕ) → heading_column r.column ≡ Filler → lex_row true r byte ≡ moved r r.line
unfolding lex_row lex_heading in_column
heading_step r byte e = rw e

term_step : (r : Row) (byte : ℕ) → r.column < a_first → term_column r.column ≡ Filler → lex_row false r byte ≡ moved r r.line
unfolding lex_row lex_term in_column
term_step r byte h e = rw (e, not_entered r (λ q. omega (arith, q)) (λ q. omega (arith, q)) (λ q. omega (arith, q)))

step_free : (heading : Bool) (r : Row) (byte n : ℕ) → Clear heading r.column (suc n) → lex_row heading r byte ≡ moved r r.line
step_free true r byte n (before_version h) =
    heading_step r byte (heading_free r.column (λ e. omega (arith, e)) (λ e. omega (arith, e)) (λ e. omega (arith, e)) (omega arith))
step_free true r byte n (before_coordinate p h) =
    heading_step r byte (heading_free r.column (λ e. omega (arith, e)) (λ e. omega (arith, e)) (λ e. omega (arith, e)) (omega arith))
step_free true r byte n (before_power p h) =
    heading_step r byte (heading_free r.column (λ e. omega (arith, e)) (λ e. omega (arith, e)) (λ e. omega (arith, e)) (omega arith))
step_free true r byte n (after_count p) = heading_step r byte (heading_after r.column p)
step_free false r byte n (before_number h) = term_step r byte (omega arith) (term_free r.column (omega arith))
step_free false r byte n (before_a p h) = term_step r byte (omega arith) (term_before_a r.column p (omega arith))

-- ---- The column.

-- The columns after the next one are free too.
next_late : (c : ℕ) → count_last < c → count_last < next_column c
unfolding next_column
next_late c h = grind (arith, nat_tests)

clear_next : (heading : Bool) (c n : ℕ) → Clear heading c (suc n) → Clear heading (next_column c) n
clear_next true c n (before_version h) = rw (next_one c (omega arith)) (before_version {c = c + 1} {n = n} (omega arith))
clear_next true c n (before_coordinate p h) = rw (next_one c (omega arith)) (before_coordinate {c = c + 1} {n = n} (omega arith) (omega arith))
clear_next true c n (before_power p h) = rw (next_one c (omega arith)) (before_power {c = c + 1} {n = n} (omega arith) (omega arith))
clear_next true c n (after_count p) = after_count (next_late c p)
clear_next false c n (before_number h) = rw (next_one c (omega arith)) (before_number {c = c + 1} {n = n} (omega arith))
clear_next false c n (before_a p h) = rw (next_one c (omega arith)) (before_a {c = c + 1} {n = n} (omega arith) (omega arith))

-- So many bytes, one at a time.
unfoldable on : ℕ → ℕ → ℕ
on c zero = c
on c (suc n) = on (next_column c) n

pub held_one : (c : ℕ) → held c 1 ≡ next_column c
unfolding held next_column
held_one c = grind (arith, nat_tests)

held_next : (c n : ℕ) → held (next_column c) n ≡ held c (suc n)
unfolding held next_column
held_next c n = grind (arith, nat_tests)

next_most : (c : ℕ) → next_column c ≤ column_limit
unfolding next_column
next_most c = grind (arith, nat_tests)

held_none : (c : ℕ) → c ≤ column_limit → c ≡ held c 0
unfolding held
held_none c h = grind (arith, nat_tests)

on_held : (c n : ℕ) → c ≤ column_limit → on c n ≡ held c n
unfolding on
on_held c zero h = held_none c h
on_held c (suc n) h = on_held (next_column c) n (next_most c) ∙ held_next c n

on_run : (c n : ℕ) → 1 ≤ n → on c n ≡ held c n
unfolding on
on_run c zero h = absurd (omega arith)
on_run c (suc n) h = on_held (next_column c) n (next_most c) ∙ held_next c n

-- ---- Runs.

run_free : (heading : Bool) (r : Row) (bytes : List ℕ) → Clear heading r.column (length bytes)
    → lex_rows heading r bytes ≡ put_column r (on r.column (length bytes))
unfolding lex_rows on
run_free heading r [] h = refl
run_free heading r (byte ∷ bytes) h =
    ap (λ (s : Row). lex_rows heading s bytes) (step_free heading r byte (length bytes) h)
    ∙ run_free heading (moved r r.line) bytes (clear_next heading r.column (length bytes) h)

good_free : (heading : Bool) (r : Row) (bytes : List ℕ) → Clear heading r.column (length bytes) → NoFeed bytes → (r.line.spot ≡ spot_bad → ⊥)
    → RunsOn heading r bytes
unfolding RunsOn NoFeed
good_free heading r [] h f g = tt
good_free heading r (byte ∷ bytes) h f g =
    rw (step_free heading r byte (length bytes) h)
    (f.0, (g, good_free heading (moved r r.line) bytes (clear_next heading r.column (length bytes) h) f.1 g))

-- The bytes before the first line feed.
abbrev pub feed_place : List ℕ → ℕ
feed_place xs = position_or_len (λ x. eqb x feed) xs

no_feed_before : (xs : List ℕ) → NoFeed (take (feed_place xs) xs)
unfolding NoFeed
no_feed_before [] = tt
no_feed_before (x ∷ xs) =
    by_cases (eqb x feed) (λ p. rw p tt) (λ p. let e : 1 + feed_place xs ≡ suc (feed_place xs) = omega arith in
    rw (p, e) (eqb-false x feed p, no_feed_before xs))

-- The bytes of a run are the first of those that stand ahead.
pub run_bytes : (text : List ℕ) (from most n : ℕ) → n ≤ length (take most (drop from text))
    → between text from (from + n) ≡ take n (take most (drop from text))
run_bytes text from most n h =
    let e : from + n - from ≡ n = omega arith in
    let few : n ≤ most = omega (arith, h, length-take most (drop from text)) in
    ap (λ (m : ℕ). take m (drop from text)) e ∙ sym (take-take n most (drop from text) few)

pub run_inside : (text : List ℕ) (from most n : ℕ) → from ≤ length text → n ≤ length (take most (drop from text))
    → (n ≤ most) × (from + n ≤ length text)
run_inside text from most n f h =
    let t = length-take most (drop from text) in
    (omega (arith, h), omega (arith, h, f, length-drop from text))

-- A run in free columns.
module _ (heading : Bool) (r : Row) (text : List ℕ) (from n columns : ℕ) where
  pub skips : columns ≡ filler_end heading r.column - r.column → n ≤ length (take columns (drop from text))
      → n ≡ feed_place (take columns (drop from text)) → (n ≡ 0 → ⊥) → from ≤ length text
      → Skips heading r text from (put_column r (held r.column n)) (from + n)
  skips is few place some inside =
      let xs = take columns (drop from text) in
      let fits = run_inside text from columns n inside few in
      let bytes = take n xs in
      let same = run_bytes text from columns n few in
      let long : length bytes ≡ n = length-take-le n xs few in
      let onward : 1 ≤ n = omega (arith, some) in
      let room : r.column + n ≤ filler_end heading r.column = omega (arith, is, fits.0, onward) in
      let free : Clear heading r.column (length bytes) = rw long (clear heading r.column n onward room) in
      let none : NoFeed bytes = rw place (no_feed_before xs) in
      record {
        onward = omega arith;
        inside = λ h. fits.1;
        no_feed = rw same none;
        same = rw (same, run_free heading r bytes free, long, on_run r.column n onward) refl;
        goes_on = λ g. rw same (good_free heading r bytes free none g);
      }

-- Where nothing is gone over all goes on as it stands.
pub as_it_stands : (heading : Bool) (r : Row) (text : List ℕ) (from : ℕ) → Skips heading r text from r from
as_it_stands heading r text from = skips_taken heading r r text from from (takes_none heading r text from)
