-- What the bytes of a good record do to a row: they are all taken, the row is then whole, and the record's figures stand in it. So what begins
-- a record leaves the row live. Assumes nothing.
use mathlib.Core.Path.{◌≡◌, refl, sym, ap, ◌∙◌}
use mathlib.Core.Bool.{Bool, true, false, cond}
use mathlib.Core.List.{List, [], ◌∷◌, ◌++◌, append_assoc}
use Prim.Native.Nat.{ℕ, zero, suc, ◌+◌, ◌-◌, ◌<◌}
use native.Mathlib.Omega.{arith}
use borrow.Author.Tests.{lt-ltb, le-leb}
use lib.Dec.{ltb}
use lib.ListN.{length, length-append}
use Rattle.integers.proofs.Tests.{by_cases}
use Rattle.series_lines.specs.declared.Line.{Line}
use Rattle.series_lines.specs.Grammar.{digit_0, point, spaces, sign, digits, CountLine, count, count_bytes, GoodCount}
use Rattle.series_lines.specs.Grammar.{count_digits, Decimal, decimal, size, GoodDecimal}
use Rattle.series_lines.specs.Lexer.{spot_decimal, spot_done, spot_count, spot_bad, fresh, bad, put, keep, with_space, whole_count}
use Rattle.published_records.specs.declared.Row.{Row}
use Rattle.published_records.specs.declared.Column.TheVariants.{Digit, Count}
use Rattle.published_records.specs.Layout.{Heading, heading_bytes, GoodHeading, TermRecord, record_bytes, GoodRecord, NoFeed, cut_term}
use Rattle.published_records.specs.Layout.{version_column, coordinate_column, power_column, count_first, count_last, number_first, number_last}
use Rattle.published_records.specs.Layout.{a_first, a_last, b_first, b_last, c_first, c_last}
use Rattle.published_records.specs.Rows.{heading_column, decimal_column, column_limit, fresh_row, with_figure, with_number, lex_rows, whole_row}
use Rattle.text_promises.proofs.GoodLines.{flag, line_of_term}
use Rattle.published_promises.specs.Decided.{BeginsHeading, BeginsRecord}
use Rattle.published_promises.proofs.RowLaws.{rows_append, rows_before, held, next_under}
use Rattle.published_promises.proofs.Stretches.{put_at, figure_step, field_lines, stretch_run, filler_run}
use Rattle.published_promises.proofs.Stretches.{before_version_stretch, before_coordinate_stretch, before_power_stretch, count_stretch}
use Rattle.published_promises.proofs.Stretches.{before_number_stretch, number_stretch, before_a_stretch, a_run, b_run, c_run}
use Rattle.published_promises.proofs.Stretches.{heading_rest, record_rest}
use Rattle.published_promises.proofs.GoodFields.{count_field, decimal_field}

-- ---- The row after a record.

abbrev pub count_line : CountLine → Line
count_line c = put (fresh spot_count) (spot_count + 1 + length c.more) 0 (count c)

abbrev pub heading_row : Heading → Row
heading_row h =
    record {
      column = held (count_last + 1 + length h.after);
      line = count_line h.count;
      version = h.version;
      coordinate = h.coordinate;
      power = h.power;
      number = 0;
    }

abbrev pub record_row : TermRecord → Row
record_row t =
    record {
      column = column_limit;
      line = line_of_term (cut_term t);
      version = 0;
      coordinate = 0;
      power = 0;
      number = count t.number;
    }

-- ---- Part by part.

-- After a part, the bytes that follow.
past : (h : Bool) (r s : Row) (xs ys : List ℕ) → lex_rows h r xs ≡ s → lex_rows h r (xs ++ ys) ≡ lex_rows h s ys
past h r s xs ys e = rows_append h r xs ys ∙ ap (λ (q : Row). lex_rows h q ys) e

-- After a figure with the spaces before it.
past_field : (h : Bool) (r s : Row) (xs ys zs : List ℕ) → lex_rows h r (xs ++ ys) ≡ s → lex_rows h r (xs ++ (ys ++ zs)) ≡ lex_rows h s zs
past_field h r s xs ys zs e = ap (λ (bs : List ℕ). lex_rows h r bs) (sym (append_assoc xs ys zs)) ∙ past h r s (xs ++ ys) zs e

-- After a digit of a heading.
past_figure : (r : Row) (d : ℕ) (ys : List ℕ) → heading_column r.column ≡ Digit → r.column < column_limit → d < 10
    → lex_rows true r ((digit_0 + d) ∷ ys)
    ≡ lex_rows true (record { column = r.column + 1; line = r.line; version = r.coordinate; coordinate = r.power; power = d; number = r.number }) ys
unfolding lex_rows with_figure
past_figure r d ys f c b =
    let e : digit_0 + d - digit_0 ≡ d = omega arith in
    let g : with_figure r (digit_0 + d)
    ≡ record { column = r.column + 1; line = r.line; version = r.coordinate; coordinate = r.power; power = d; number = r.number } =
    rw (le-leb digit_0 (digit_0 + d) (omega arith), lt-ltb (digit_0 + d) (digit_0 + 10) (omega arith), e, next_under r.column c) in
    ap (λ (q : Row). lex_rows true q ys) (figure_step r (digit_0 + d) f ∙ g)

spaces_length : (n : ℕ) → length (spaces n) ≡ n
unfolding spaces
spaces_length zero = refl
spaces_length (suc n) = ap suc (spaces_length n)

-- How long a figure with the spaces before it is.
right : (n : ℕ) (ys : List ℕ) (k : ℕ) → n + length ys ≡ k → length (spaces n ++ ys) ≡ k
right n ys k e = length-append (spaces n) ys ∙ (rw (spaces_length n) e)

-- ---- A heading.

heading_count_run : (r : Row) (i : ℕ) (c : CountLine) → GoodCount c → i + length (count_bytes c) ≡ count_last - count_first + 1
    → r.column ≡ count_first → r.line ≡ fresh spot_count
    → lex_rows true r (spaces i ++ count_bytes c) ≡ put_at r (count_last + 1) (count_line c)
heading_count_run r i c g e k l =
    stretch_run true Count count_first count_last count_stretch (omega arith) r (spaces i ++ count_bytes c) (omega arith)
    (omega (arith, right i (count_bytes c) (count_last - count_first + 1) e))
    ∙ ap (λ (q : Line). put_at r (count_last + 1) q)
    (ap (λ (q : Line). field_lines Count q (spaces i ++ count_bytes c)) l ∙ count_field i c g)

pub heading_run : (h : Heading) → GoodHeading h → lex_rows true fresh_row (heading_bytes h) ≡ heading_row h
unfolding heading_bytes
heading_run h g =
    let l = fresh spot_count in
    let v = h.version in
    let k = h.coordinate in
    let p = h.power in
    let c : List ℕ = spaces h.count_indent ++ (count_bytes h.count ++ h.after) in
    let p_on : List ℕ = h.before_power ++ ((digit_0 + p) ∷ c) in
    let k_on : List ℕ = h.before_coordinate ++ ((digit_0 + k) ∷ p_on) in
    let r₀ : Row = put_at fresh_row version_column l in
    let r₁ : Row = record { column = version_column + 1; line = l; version = 0; coordinate = 0; power = v; number = 0 } in
    let r₂ : Row = put_at r₁ coordinate_column l in
    let r₃ : Row = record { column = coordinate_column + 1; line = l; version = 0; coordinate = v; power = k; number = 0 } in
    let r₄ : Row = put_at r₃ power_column l in
    let r₅ : Row = record { column = count_first; line = l; version = v; coordinate = k; power = p; number = 0 } in
    let r₆ : Row = put_at r₅ (count_last + 1) (count_line h.count) in
    past true fresh_row r₀ h.before_version ((digit_0 + v) ∷ k_on)
    (filler_run true 1 (version_column - 1) before_version_stretch (omega arith) fresh_row h.before_version (omega arith)
    (omega (arith, g.before_version.columns)))
    ∙ past_figure r₀ v k_on (unfold heading_column in refl) (omega arith) g.version
    ∙ past true r₁ r₂ h.before_coordinate ((digit_0 + k) ∷ p_on)
    (filler_run true (version_column + 1) (coordinate_column - 1) before_coordinate_stretch (omega arith) r₁ h.before_coordinate (omega arith)
    (omega (arith, g.before_coordinate.columns)))
    ∙ past_figure r₂ k p_on (unfold heading_column in refl) (omega arith) g.coordinate
    ∙ past true r₃ r₄ h.before_power ((digit_0 + p) ∷ c)
    (filler_run true (coordinate_column + 1) (power_column - 1) before_power_stretch (omega arith) r₃ h.before_power (omega arith)
    (omega (arith, g.before_power.columns)))
    ∙ past_figure r₄ p c (unfold heading_column in refl) (omega arith) g.power
    ∙ past_field true r₅ r₆ (spaces h.count_indent) (count_bytes h.count) h.after
    (heading_count_run r₅ h.count_indent h.count g.count g.count_right refl refl)
    ∙ heading_rest r₆ h.after (omega arith) (omega arith)

-- ---- A term record.

number_run : (r : Row) (i : ℕ) (c : CountLine) → GoodCount c → i + length (count_bytes c) ≡ number_last - number_first + 1
    → r.column ≡ number_first → r.line ≡ fresh spot_count
    → lex_rows false r (spaces i ++ count_bytes c) ≡ put_at r (number_last + 1) (count_line c)
number_run r i c g e k l =
    stretch_run false Count number_first number_last number_stretch (omega arith) r (spaces i ++ count_bytes c) (omega arith)
    (omega (arith, right i (count_bytes c) (number_last - number_first + 1) e))
    ∙ ap (λ (q : Line). put_at r (number_last + 1) q)
    (ap (λ (q : Line). field_lines Count q (spaces i ++ count_bytes c)) l ∙ count_field i c g)

-- The line before a decimal, and after it.
abbrev after_decimal : Line → Decimal → Line
after_decimal l d = put l spot_done (flag d.minus) (size d)

abbrev before_next : Line → Decimal → Line
before_next l d = keep l (flag d.minus) (size d)

whole_line : (c : CountLine) → GoodCount c → whole_count (count_line c) ≡ true
unfolding whole_count
whole_line c g =
    let n = spot_count + 1 + length c.more in
    rw (lt-ltb spot_count n (omega arith), lt-ltb n (spot_count + count_digits + 1) (omega (arith, g.few)))

a_part : (r : Row) (i : ℕ) (c : CountLine) (d : Decimal) → GoodCount c → GoodDecimal d → i + length (decimal d) ≡ a_last - a_first + 1
    → r.column ≡ a_first → r.line ≡ count_line c
    → lex_rows false r (spaces i ++ decimal d)
    ≡ record {
      column = b_first;
      line = after_decimal (fresh spot_decimal) d;
      version = r.version;
      coordinate = r.coordinate;
      power = r.power;
      number = count c;
    }
a_part r i c d g f e k l =
    let s : (with_number r).line ≡ fresh spot_decimal =
    ap (λ (t : Bool). cond t (fresh spot_decimal) bad) (ap whole_count l ∙ whole_line c g) in
    let v : r.line.value ≡ count c = ap (λ (q : Line). q.value) l in
    a_run r (spaces i ++ decimal d) k (right i (decimal d) (a_last - a_first + 1) e)
    ∙ ap (λ (q : Line). put_at (with_number r) b_first q)
    (ap (λ (q : Line). field_lines decimal_column q (spaces i ++ decimal d)) s ∙ decimal_field i (fresh spot_decimal) d f)
    ∙ ap (λ (n : ℕ). record {
      column = b_first;
      line = after_decimal (fresh spot_decimal) d;
      version = r.version;
      coordinate = r.coordinate;
      power = r.power;
      number = n;
    }) v

-- The line when the next decimal is entered.
next_line : (l : Line) (d : Decimal) → l.field < 2 → with_space (after_decimal l d) ≡ before_next l d
unfolding with_space
next_line l d h = rw (lt-ltb l.field 2 h)

b_part : (r : Row) (i : ℕ) (l : Line) (a d : Decimal) → GoodDecimal d → i + length (decimal d) ≡ b_last - b_first + 1
    → r.column ≡ b_first → r.line ≡ after_decimal l a → l.field < 2
    → lex_rows false r (spaces i ++ decimal d) ≡ put_at r c_first (after_decimal (before_next l a) d)
b_part r i l a d g e k o h =
    b_run r (spaces i ++ decimal d) k (right i (decimal d) (b_last - b_first + 1) e)
    ∙ ap (λ (q : Line). put_at r c_first q)
    (ap (λ (q : Line). field_lines decimal_column q (spaces i ++ decimal d)) (ap with_space o ∙ next_line l a h) ∙ decimal_field i (before_next l a) d g)

c_part : (r : Row) (i : ℕ) (l : Line) (b d : Decimal) → GoodDecimal d → i + length (decimal d) ≡ c_last - c_first + 1
    → r.column ≡ c_first → r.line ≡ after_decimal l b → l.field < 2
    → lex_rows false r (spaces i ++ decimal d) ≡ put_at r column_limit (after_decimal (before_next l b) d)
c_part r i l b d g e k o h =
    c_run r (spaces i ++ decimal d) k (right i (decimal d) (c_last - c_first + 1) e)
    ∙ ap (λ (q : Line). put_at r column_limit q)
    (ap (λ (q : Line). field_lines decimal_column q (spaces i ++ decimal d)) (ap with_space o ∙ next_line l b h) ∙ decimal_field i (before_next l b) d g)

pub record_run : (t : TermRecord) → GoodRecord t → lex_rows false fresh_row (record_bytes t) ≡ record_row t
unfolding record_bytes
record_run t g =
    let l = fresh spot_count in
    let z = fresh spot_decimal in
    let n = count_line t.number in
    let la = after_decimal z t.a in
    let kb = before_next z t.a in
    let lb = after_decimal kb t.b in
    let lc = after_decimal (before_next kb t.b) t.c in
    let after_c : List ℕ = spaces t.after in
    let after_b : List ℕ = spaces t.c_indent ++ (decimal t.c ++ after_c) in
    let after_a : List ℕ = spaces t.b_indent ++ (decimal t.b ++ after_b) in
    let before_a : List ℕ = spaces t.a_indent ++ (decimal t.a ++ after_a) in
    let after_number : List ℕ = t.before_a ++ before_a in
    let r₀ : Row = put_at fresh_row number_first l in
    let r₁ : Row = put_at fresh_row (number_last + 1) n in
    let r₂ : Row = put_at fresh_row a_first n in
    let r₃ : Row = record { column = b_first; line = la; version = 0; coordinate = 0; power = 0; number = count t.number } in
    let r₄ : Row = put_at r₃ c_first lb in
    let r₅ : Row = put_at r₃ column_limit lc in
    past false fresh_row r₀ t.before_number (spaces t.number_indent ++ (count_bytes t.number ++ after_number))
    (filler_run false 1 (number_first - 1) before_number_stretch (omega arith) fresh_row t.before_number (omega arith)
    (omega (arith, g.before_number.columns)))
    ∙ past_field false r₀ r₁ (spaces t.number_indent) (count_bytes t.number) after_number
    (number_run r₀ t.number_indent t.number g.number g.number_right refl refl)
    ∙ past false r₁ r₂ t.before_a before_a
    (filler_run false (number_last + 1) (a_first - 1) before_a_stretch (omega arith) r₁ t.before_a (omega arith)
    (omega (arith, g.before_a.columns)))
    ∙ past_field false r₂ r₃ (spaces t.a_indent) (decimal t.a) after_a
    (a_part r₂ t.a_indent t.number t.a g.number g.a g.a_right refl refl)
    ∙ past_field false r₃ r₄ (spaces t.b_indent) (decimal t.b) after_b
    (b_part r₃ t.b_indent z t.a t.b g.b g.b_right refl refl (omega arith))
    ∙ past_field false r₄ r₅ (spaces t.c_indent) (decimal t.c) after_c
    (c_part r₄ t.c_indent kb t.b t.c g.c g.c_right refl refl (omega arith))
    ∙ record_rest r₅ t.after refl

-- ---- Such rows are whole, and live.

pub heading_whole : (h : Heading) → GoodHeading h → whole_row true (heading_row h) ≡ true
unfolding whole_row held
heading_whole h g =
    let n = count_last + 1 + length h.after in
    by_cases (ltb n column_limit) (λ p. rw p (lt-ltb count_last n (omega arith))) (λ p. rw p)

pub record_whole : (t : TermRecord) → GoodRecord t → whole_row false (record_row t) ≡ true
unfolding whole_row
record_whole t g = refl

pub heading_live : (xs : List ℕ) → BeginsHeading xs → (lex_rows true fresh_row xs).line.spot ≡ spot_bad → ⊥
heading_live xs b e =
    let q = ap (λ (ys : List ℕ). lex_rows true fresh_row ys) b.is ∙ heading_run b.h b.good in
    rows_before true fresh_row xs b.rest
    (λ z. omega (arith, sym (ap (λ (r : Row). r.line.spot) q) ∙ z, b.good.count.few)) e

pub record_live : (xs : List ℕ) → BeginsRecord xs → (lex_rows false fresh_row xs).line.spot ≡ spot_bad → ⊥
record_live xs b e =
    let q = ap (λ (ys : List ℕ). lex_rows false fresh_row ys) b.is ∙ record_run b.t b.good in
    rows_before false fresh_row xs b.rest (λ z. omega (arith, sym (ap (λ (r : Row). r.line.spot) q) ∙ z)) e

-- ---- No line feed is in them.

pub no_feed_append : (xs ys : List ℕ) → NoFeed xs → NoFeed ys → NoFeed (xs ++ ys)
unfolding NoFeed
no_feed_append [] ys a b = b
no_feed_append (x ∷ xs) ys a b = (a.0, no_feed_append xs ys a.1 b)

spaces_no_feed : (n : ℕ) → NoFeed (spaces n)
unfolding NoFeed spaces
spaces_no_feed zero = tt
spaces_no_feed (suc n) = ((λ e. omega (arith, e)), spaces_no_feed n)

digits_no_feed : (ds : List ℕ) → NoFeed (digits ds)
unfolding NoFeed digits
digits_no_feed [] = tt
digits_no_feed (d ∷ ds) = ((λ e. omega (arith, e)), digits_no_feed ds)

sign_no_feed : (m : Bool) → NoFeed (sign m)
unfolding NoFeed sign
sign_no_feed true = ((λ e. omega (arith, e)), tt)
sign_no_feed false = tt

decimal_no_feed : (d : Decimal) → NoFeed (decimal d)
unfolding NoFeed decimal
decimal_no_feed d =
    no_feed_append (sign d.minus) (digits (d.first ∷ d.more) ++ (point ∷ digits d.parts)) (sign_no_feed d.minus)
    (no_feed_append (digits (d.first ∷ d.more)) (point ∷ digits d.parts) (digits_no_feed (d.first ∷ d.more))
    ((λ e. omega (arith, e)), digits_no_feed d.parts))

count_no_feed : (c : CountLine) → NoFeed (count_bytes c)
unfolding count_bytes
count_no_feed c = digits_no_feed (c.first ∷ c.more)

pub heading_no_feed : (h : Heading) → GoodHeading h → NoFeed (heading_bytes h)
unfolding NoFeed heading_bytes
heading_no_feed h g =
    no_feed_append h.before_version _ g.before_version.no_feed (
      (λ e. omega (arith, e)),
      no_feed_append h.before_coordinate _ g.before_coordinate.no_feed (
        (λ e. omega (arith, e)),
        no_feed_append h.before_power _ g.before_power.no_feed (
          (λ e. omega (arith, e)),
          no_feed_append (spaces h.count_indent) _ (spaces_no_feed h.count_indent)
              (no_feed_append (count_bytes h.count) h.after (count_no_feed h.count) g.after),
        ),
      ),
    )

pub record_no_feed : (t : TermRecord) → GoodRecord t → NoFeed (record_bytes t)
unfolding record_bytes
record_no_feed t g =
    no_feed_append t.before_number _ g.before_number.no_feed
    (no_feed_append (spaces t.number_indent) _ (spaces_no_feed t.number_indent)
    (no_feed_append (count_bytes t.number) _ (count_no_feed t.number)
    (no_feed_append t.before_a _ g.before_a.no_feed
    (no_feed_append (spaces t.a_indent) _ (spaces_no_feed t.a_indent)
    (no_feed_append (decimal t.a) _ (decimal_no_feed t.a)
    (no_feed_append (spaces t.b_indent) _ (spaces_no_feed t.b_indent)
    (no_feed_append (decimal t.b) _ (decimal_no_feed t.b)
    (no_feed_append (spaces t.c_indent) _ (spaces_no_feed t.c_indent)
    (no_feed_append (decimal t.c) _ (decimal_no_feed t.c) (spaces_no_feed t.after))))))))))
