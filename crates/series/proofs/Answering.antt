-- What a call on packed bytes and an instant answers. Assumes nothing.
use mathlib.Core.Path.{◌≡◌, sym, ap, ap₂, ◌∙◌}
use mathlib.Core.Bool.{Bool, true, false, cond, not}
use mathlib.Core.List.{List}
use Prim.Native.Nat.{ℕ}
use Rattle.units.specs.Units.{t_limit, in_limit}
use Rattle.units.specs.declared.Instant.{Instant}
use Rattle.units.specs.declared.Coordinates.{Coordinates}
use Rattle.units.specs.declared.Refusal.{Refusal}
use Rattle.units.specs.declared.Refusal.TheVariants.{PastLimit, TooFar}
use Rattle.units.proofs.Limit.{told_past, told_within}
use Rattle.limits.specs.Wide.{reaches, four_millennia}
use Rattle.packed.specs.declared.Content.{Content}
use Rattle.std.specs.Prelude.{Err, Ok, Result}
use Rattle.packed.specs.Series.{Parsed, accepted, refused, parse, checked}
use Rattle.packed.specs.declared.table.Table.{Table as Terms}
use Rattle.packed.specs.Machine.Table.{table_blocks}
use Rattle.series.specs.Sums.{coordinates, of_parsed, coordinates_by, coordinates_answer}
use Rattle.series.proofs.Filled.{SeriesIn, refused_of}

pub answers_past : (bytes : List ℕ) (t : Instant) (b : Bool) → b ≡ in_limit t.ms → not b ≡ true → Err (PastLimit t) ≡ coordinates_answer bytes t
unfolding coordinates_by
answers_past bytes t b e f =
    sym (ap (λ (c : Bool). cond c (of_parsed four_millennia t (parse bytes)) (Err (PastLimit t))) (told_past t_limit t.ms b e f))

pub answers_parsed : (bytes : List ℕ) (t : Instant) (p : Parsed) → in_limit t.ms ≡ true → parse bytes ≡ p
    → of_parsed four_millennia t p ≡ coordinates_answer bytes t
unfolding coordinates_by
answers_parsed bytes t p e f = sym (ap₂ (λ (c : Bool) (q : Parsed). cond c (of_parsed four_millennia t q) (Err (PastLimit t))) e f)

-- b is what the test of the limit answered, and the caller went on
module _ (bytes : List ℕ) (t : Instant) (b : Bool) (e : b ≡ in_limit t.ms) (f : not b ≡ false) where
  pub answers_refused : (k : Result Content Refusal) (r : Refusal) → k ≡ Err r → k ≡ checked (parse bytes) → Err r ≡ coordinates_answer bytes t
  unfolding of_parsed
  answers_refused k r g h = answers_parsed bytes t (refused r) (told_within t_limit t.ms b e f) (refused_of (parse bytes) k r g h)

  module _ (rows : Terms) (c : Content) (u : SeriesIn bytes rows c) where
    answers_asked : (a : Bool) → reaches (table_blocks rows) t.ms ≡ a
        → cond a (Ok (coordinates t.ms (table_blocks rows))) (Err (TooFar t)) ≡ coordinates_answer bytes t
    unfolding of_parsed
    answers_asked a g =
        ap (λ (a : Bool). cond a (Ok (coordinates t.ms (table_blocks rows))) (Err (TooFar t))) (sym g)
        ∙ answers_parsed bytes t (accepted (table_blocks rows)) (told_within t_limit t.ms b e f) u.parsed

    pub answers_far : reaches (table_blocks rows) t.ms ≡ false → Err (TooFar t) ≡ coordinates_answer bytes t
    answers_far g = answers_asked false g

    pub answers_at : (x : Coordinates) → reaches (table_blocks rows) t.ms ≡ true → x ≡ coordinates t.ms (table_blocks rows)
        → Ok x ≡ coordinates_answer bytes t
    answers_at x g h = ap Ok h ∙ answers_asked true g
