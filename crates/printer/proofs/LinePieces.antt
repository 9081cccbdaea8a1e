-- The pieces of a decimal's and of a line's text, and their lengths. Assumes nothing.
use mathlib.Core.Path.{◌≡◌, refl, sym, ap, ◌∙◌}
use mathlib.Core.Bool.{Bool, true, false}
use mathlib.Core.List.{List, [], ◌∷◌, append_assoc, append-nil}
use Prim.Native.Nat.{ℕ, ◌+◌, ◌/◌, ◌%◌, ◌≤◌}
use native.Mathlib.Decide.{ℕ_discrete}
use native.Mathlib.Nat.{add-zero}
use native.Mathlib.Omega.{arith}
use lib.Dec.{eqb}
use lib.IntN.{ℤ, nat_abs}
use lib.ListN.{length}
use Rattle.integers.specs.Signs.{negative}
use Rattle.units.specs.Units.{parts}
use Rattle.packed_numbers.specs.declared.quick.PackedTerm.{PackedTerm}
use Rattle.packed_numbers.specs.Numbers.{unfolded}
use Rattle.packed_numbers.proofs.Folding.{even, odd}
use Rattle.limits.specs.declared.Term.{Term}
use Rattle.packed.specs.declared.table.Table.{Table}
use Rattle.packed.specs.Machine.Table.{packed_at, term_at}
use Rattle.series_lines.specs.Grammar.{feed, spaces, sign, point, part_digits, digits, decimal, term_bytes}
use Rattle.printer.specs.Printer.{last_digits, plain_decimal, plain_term}
use Rattle.printer.specs.Machine.Writing.{Room, Wrote, whole_text, line_text, whole_most, decimal_most}
use Rattle.printer.proofs.PieceByPiece.{joined, total, length_joined}
use Rattle.printer.proofs.DigitsWritten.{length_digits, length_last}

-- A decimal: its sign, its whole part, the point and the digits after it.
abbrev pub decimal_parts : Bool → ℕ → List (List ℕ)
decimal_parts minus v = sign minus ∷ whole_text (v / parts) ∷ (point ∷ []) ∷ digits (last_digits part_digits v) ∷ []

pub decimal_pieces : (minus : Bool) (v : ℕ) → decimal (plain_decimal minus v) ≡ joined (decimal_parts minus v)
unfolding decimal plain_decimal whole_text joined
decimal_pieces minus v = rw (append-nil (digits (last_digits part_digits v)))

pub decimal_size : (minus : Bool) (v : ℕ) → length (decimal (plain_decimal minus v)) ≡ length (sign minus) + length (whole_text (v / parts)) + (1 + part_digits)
unfolding total
decimal_size minus v =
    omega (
      arith,
      ap length (decimal_pieces minus v) ∙ length_joined (decimal_parts minus v),
      length_digits (last_digits part_digits v),
      length_last part_digits v,
    )

pub sign_length : (m : Bool) → length (sign m) ≤ 1
unfolding sign
sign_length true = omega arith
sign_length false = omega arith

pub decimal_length : (minus : Bool) (v n : ℕ) → n ≡ length (whole_text (v / parts)) → n ≤ whole_most
    → (n + (1 + part_digits) + length (sign minus) ≡ length (decimal (plain_decimal minus v))) × (n + (1 + part_digits) + length (sign minus) ≤ decimal_most)
decimal_length minus v n e h = (omega (arith, decimal_size minus v), omega (arith, sign_length minus))

-- A folded number is below zero where it is odd.
pub odd_below : (v : ℕ) → eqb (v % 2) 1 ≡ negative (unfolded v)
unfolding negative
odd_below v = go (ℕ_discrete (v % 2) 0)
  where
    go : Dec (v % 2 ≡ 0) → eqb (v % 2) 1 ≡ negative (unfolded v)
    go (yes e) = rw (even v e, e)
    go (no n) = let o : v % 2 ≡ 1 = omega (arith, n) in rw (odd v n, o)

-- A sign: a minus, or nothing.
pub minus_length : (m : Bool) → m ≡ true → length (sign m) ≡ 1
unfolding sign
minus_length m e = rw e

pub plus_length : (m : Bool) → m ≡ false → length (sign m) ≡ 0
unfolding sign
plus_length m e = rw e

pub minus_room : (m : Bool) (at : ℕ) (out : List ℕ) → m ≡ true → Room (sign m) at out → Room (45 ∷ []) at out
minus_room m at out e h = omega (arith, minus_length m e)

pub minus_wrote : {m : Bool} {at to : ℕ} {out after : List ℕ} → m ≡ true → Wrote (45 ∷ []) at out to after → Wrote (sign m) at out to after
unfolding sign
minus_wrote e w = rw e w

pub plus_wrote : {m : Bool} (at : ℕ) (out : List ℕ) → m ≡ false → Wrote (sign m) at out at out
unfolding sign
plus_wrote at out e = rw e (record { end = sym (add-zero at); holds = refl })

-- A number's sign and size.
pub record Signed (z : ℤ) (minus : Bool) (size : ℕ) : Type 0 where
  pub is_minus : minus ≡ negative z
  pub is_size : size ≡ nat_abs z

pub signed : (z : ℤ) (minus : Bool) (size : ℕ) → minus ≡ negative z → size ≡ nat_abs z → Signed z minus size
signed z minus size e f = record { is_minus = e; is_size = f }

-- The numbers of the term at place k of a table, from those that are packed there.
module _ (p : PackedTerm) (table : Table) (k : ℕ) (is : p ≡ packed_at table k) where
  pub packed_a : {minus : Bool} {size : ℕ} → minus ≡ negative (unfolded p.a) → size ≡ nat_abs (unfolded p.a) → Signed (term_at table k).a minus size
  unfolding term_at
  packed_a e f =
      signed _ _ _ (e ∙ ap (λ (q : PackedTerm). negative (unfolded q.a)) is) (f ∙ ap (λ (q : PackedTerm). nat_abs (unfolded q.a)) is)

  pub packed_b : p.b ≡ (term_at table k).b
  unfolding term_at
  packed_b = ap (λ (q : PackedTerm). q.b) is

  pub packed_c : {minus : Bool} {size : ℕ} → minus ≡ negative (unfolded p.c) → size ≡ nat_abs (unfolded p.c) → Signed (term_at table k).c minus size
  unfolding term_at
  packed_c e f =
      signed _ _ _ (e ∙ ap (λ (q : PackedTerm). negative (unfolded q.c)) is) (f ∙ ap (λ (q : PackedTerm). nat_abs (unfolded q.c)) is)

-- A term's line: its decimals, two spaces and the line feed.
abbrev pub line_parts : List ℕ → List ℕ → List ℕ → List (List ℕ)
line_parts a b c = a ∷ (32 ∷ []) ∷ b ∷ (32 ∷ []) ∷ c ∷ (feed ∷ []) ∷ []

abbrev pub term_parts : Bool → ℕ → ℕ → Bool → ℕ → List (List ℕ)
term_parts ma va b mc vc = line_parts (decimal (plain_decimal ma va)) (decimal (plain_decimal false b)) (decimal (plain_decimal mc vc))

module _ (t : Term) (ma : Bool) (va : ℕ) (mc : Bool) (vc : ℕ) (ea : Signed t.a ma va) (ec : Signed t.c mc vc) where
  pub line_pieces : line_text t ≡ joined (term_parts ma va t.b mc vc)
  unfolding line_text term_bytes plain_term spaces joined
  line_pieces = rw (ea.is_minus, ea.is_size, ec.is_minus, ec.is_size) (simp append_assoc)

  pub line_length : (n m k : ℕ) → n ≡ length (decimal (plain_decimal ma va)) → m ≡ length (decimal (plain_decimal false t.b))
      → k ≡ length (decimal (plain_decimal mc vc)) → n + m + k + 3 ≡ length (line_text t)
  unfolding total
  line_length n m k en em ek = omega (arith, ap length line_pieces ∙ length_joined (term_parts ma va t.b mc vc))
