-- Runs of bytes of a record, one after the other. Assumes nothing.
use mathlib.Core.Path.{◌≡◌, refl, sym, ap, ◌∙◌}
use mathlib.Core.Bool.{Bool, false}
use mathlib.Core.List.{List, [], ◌∷◌, ◌++◌}
use Prim.Native.Nat.{ℕ, ◌+◌, ◌-◌, ◌≤◌, ◌<◌}
use native.Mathlib.Omega.{arith}
use borrow.Author.Tests.{eqb-false}
use lib.ListN.{length, take, drop, get_or}
use lib.Seq.{drop-cons, drop-drop, take-add}
use Rattle.series_lines.specs.Grammar.{feed}
use Rattle.series_lines.specs.Lexer.{spot_bad}
use Rattle.published_records.specs.declared.Row.{Row}
use Rattle.published_records.specs.Layout.{NoFeed}
use Rattle.published_records.specs.Rows.{lex_row, lex_rows}
use Rattle.published_records.specs.Machine.Runs.{between, is_bad, RunsOn, Takes}
use Rattle.published_records.specs.Machine.Fillers.{Skips}

-- ---- Lists of bytes.

rows_append : (heading : Bool) (r : Row) (xs ys : List ℕ) → lex_rows heading r (xs ++ ys) ≡ lex_rows heading (lex_rows heading r xs) ys
unfolding lex_rows
rows_append heading r [] ys = refl
rows_append heading r (x ∷ xs) ys = rows_append heading (lex_row heading r x) xs ys

goes_on_append : (heading : Bool) (r : Row) (xs ys : List ℕ) → RunsOn heading r xs → RunsOn heading (lex_rows heading r xs) ys → RunsOn heading r (xs ++ ys)
unfolding lex_rows RunsOn
goes_on_append heading r [] ys g h = h
goes_on_append heading r (x ∷ xs) ys g h = (g.0, (g.1.0, goes_on_append heading (lex_row heading r x) xs ys g.1.1 h))

between_append : (text : List ℕ) (from i next : ℕ) → from ≤ i → i ≤ next → between text from next ≡ between text from i ++ between text i next
between_append text from i next p q =
    let e : next - from ≡ (i - from) + (next - i) = omega arith in
    let f : from + (i - from) ≡ i = omega arith in
    ap (λ (n : ℕ). take n (drop from text)) e
    ∙ take-add (i - from) (next - i) (drop from text)
    ∙ ap (λ (bytes : List ℕ). between text from i ++ take (next - i) bytes) (drop-drop (i - from) from text ∙ ap (λ (n : ℕ). drop n text) f)

-- ---- Runs.

pub takes_none : (heading : Bool) (r : Row) (text : List ℕ) (from : ℕ) → Takes heading r text from r from
unfolding RunsOn lex_rows
takes_none heading r text from =
    let e : from - from ≡ 0 = omega arith in
    let n : between text from from ≡ [] = ap (λ (n : ℕ). take n (drop from text)) e in
    record { onward = omega arith; inside = λ h. h; goes_on = rw n tt; same = ap (lex_rows heading r) (sym n) }

-- One byte.
one_byte : (text : List ℕ) (i : ℕ) → i < length text → between text i (i + 1) ≡ get_or text i 0 ∷ []
one_byte text i h =
    let e : i + 1 - i ≡ 1 = omega arith in
    ap (λ (n : ℕ). take n (drop i text)) e ∙ ap (take 1) (drop-cons text i 0 h)

pub takes_one : (heading : Bool) (r s : Row) (text : List ℕ) (i byte : ℕ) → i < length text → byte ≡ get_or text i 0 → s ≡ lex_row heading r byte
    → (byte ≡ feed → ⊥) → (s.line.spot ≡ spot_bad → ⊥) → Takes heading r text i s (i + 1)
unfolding RunsOn lex_rows
takes_one heading r s text i byte h b e f g =
    let n : between text i (i + 1) ≡ byte ∷ [] = rw b (one_byte text i h) in
    record { onward = omega arith; inside = λ k. omega arith; goes_on = rw (n, ← e) (f, (g, tt)); same = e ∙ ap (lex_rows heading r) (sym n) }

-- Two runs, one after the other.
pub takes_then : (heading : Bool) (r s t : Row) (text : List ℕ) (from i next : ℕ) → Takes heading r text from s i → Takes heading s text i t next
    → Takes heading r text from t next
takes_then heading r s t text from i next a b =
    let n = between_append text from i next a.onward b.onward in
    let x = between text from i in
    let y = between text i next in
    record {
      onward = omega (arith, a.onward, b.onward);
      inside = λ h. b.inside (a.inside h);
      goes_on = rw n (goes_on_append heading r x y a.goes_on (rw (← a.same) b.goes_on));
      same = b.same ∙ ap (λ (k : Row). lex_rows heading k y) a.same ∙ sym (rows_append heading r x y) ∙ ap (lex_rows heading r) (sym n);
    }

-- A run in a record that is good.
pub takes_good : (heading : Bool) (r s : Row) (text : List ℕ) (from next : ℕ) → Skips heading r text from s next → (r.line.spot ≡ spot_bad → ⊥)
    → Takes heading r text from s next
takes_good heading r s text from next a g =
    record { onward = a.onward; inside = a.inside; goes_on = a.goes_on g; same = a.same }

-- Where the record goes on there is no line feed.
no_feed : (heading : Bool) (r : Row) (bytes : List ℕ) → RunsOn heading r bytes → NoFeed bytes
unfolding RunsOn NoFeed
no_feed heading r [] g = tt
no_feed heading r (byte ∷ bytes) g = (g.0, no_feed heading (lex_row heading r byte) bytes g.1.1)

pub skips_taken : (heading : Bool) (r s : Row) (text : List ℕ) (from next : ℕ) → Takes heading r text from s next → Skips heading r text from s next
skips_taken heading r s text from next t =
    record {
      onward = t.onward;
      inside = t.inside;
      no_feed = no_feed heading r (between text from next) t.goes_on;
      same = t.same;
      goes_on = λ g. t.goes_on;
    }

pub not_bad : (r : Row) (t : Bool) → t ≡ is_bad r → t ≡ false → r.line.spot ≡ spot_bad → ⊥
unfolding is_bad
not_bad r t e f = eqb-false r.line.spot spot_bad (sym e ∙ f)
