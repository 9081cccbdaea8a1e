-- `put_line` meets its contract. Assumes nothing.
use mathlib.Core.Path.{◌≡◌}
use mathlib.Core.Bool.{Bool}
use mathlib.Core.List.{List}
use Prim.Native.Nat.{ℕ}
use lib.IntN.{nat_abs}
use Rattle.integers.specs.Signs.{negative}
use Rattle.packed_numbers.specs.declared.quick.PackedTerm.{PackedTerm}
use Rattle.packed_numbers.specs.Numbers.{unfolded}
use Rattle.packed.specs.declared.table.Table.{Table}
use Rattle.packed.specs.Machine.Table.{packed_at, term_at}
use Rattle.printer.specs.Machine.Writing.{line_of}
use Rattle.printer.proofs.PieceByPiece.{Left, left_is, left_more, left_over, left_room}
use Rattle.printer.proofs.LinePieces.{packed_a, packed_b, packed_c, term_parts, line_pieces}
use Rattle.printer.proofs.lines.put_line.Goals as goal

-- Before the first write all pieces are left.
begun : (table : Table) (k at : ℕ) (out : List ℕ) (p : PackedTerm) {ma mc : Bool} {va vc : ℕ} → p ≡ packed_at table k
    → ma ≡ negative (unfolded p.a) → va ≡ nat_abs (unfolded p.a) → mc ≡ negative (unfolded p.c) → vc ≡ nat_abs (unfolded p.c)
    → Left (line_of table k) at out (term_parts ma va p.b mc vc) at out
begun table k at out p is ea fa ec fc =
    rw (packed_b p table k is) (left_is (line_pieces (term_at table k) _ _ _ _ (packed_a _ _ _ is ea fa) (packed_c _ _ _ is ec fc)) at out)

pub put_decimal-i-requires : goal.put_decimal-i-requires
put_decimal-i-requires c =
    let left0 =
    begun _ _ _ _ _ c.term-a.ensures c.below_zero-minus_a.ensures c.magnitude-size_a.ensures c.below_zero-minus_c.ensures c.magnitude-size_c.ensures in
    left_room left0 c.requires.1

pub put_byte-at_b-requires : goal.put_byte-at_b-requires
put_byte-at_b-requires c =
    let left0 =
    begun _ _ _ _ _ c.term-a.ensures c.below_zero-minus_a.ensures c.magnitude-size_a.ensures c.below_zero-minus_c.ensures c.magnitude-size_c.ensures in
    let left1 = left_more left0 c.put_decimal-i.ensures in
    left_room left1 c.requires.1

pub put_decimal-j-requires : goal.put_decimal-j-requires
put_decimal-j-requires c =
    let left0 =
    begun _ _ _ _ _ c.term-a.ensures c.below_zero-minus_a.ensures c.magnitude-size_a.ensures c.below_zero-minus_c.ensures c.magnitude-size_c.ensures in
    let left1 = left_more left0 c.put_decimal-i.ensures in
    let left2 = left_more left1 c.put_byte-at_b.ensures in
    left_room left2 c.requires.1

pub put_byte-at_c-requires : goal.put_byte-at_c-requires
put_byte-at_c-requires c =
    let left0 =
    begun _ _ _ _ _ c.term-a.ensures c.below_zero-minus_a.ensures c.magnitude-size_a.ensures c.below_zero-minus_c.ensures c.magnitude-size_c.ensures in
    let left1 = left_more left0 c.put_decimal-i.ensures in
    let left2 = left_more left1 c.put_byte-at_b.ensures in
    let left3 = left_more left2 c.put_decimal-j.ensures in
    left_room left3 c.requires.1

pub put_decimal-end-requires : goal.put_decimal-end-requires
put_decimal-end-requires c =
    let left0 =
    begun _ _ _ _ _ c.term-a.ensures c.below_zero-minus_a.ensures c.magnitude-size_a.ensures c.below_zero-minus_c.ensures c.magnitude-size_c.ensures in
    let left1 = left_more left0 c.put_decimal-i.ensures in
    let left2 = left_more left1 c.put_byte-at_b.ensures in
    let left3 = left_more left2 c.put_decimal-j.ensures in
    let left4 = left_more left3 c.put_byte-at_c.ensures in
    left_room left4 c.requires.1

pub put_byte-requires : goal.put_byte-requires
put_byte-requires c =
    let left0 =
    begun _ _ _ _ _ c.term-a.ensures c.below_zero-minus_a.ensures c.magnitude-size_a.ensures c.below_zero-minus_c.ensures c.magnitude-size_c.ensures in
    let left1 = left_more left0 c.put_decimal-i.ensures in
    let left2 = left_more left1 c.put_byte-at_b.ensures in
    let left3 = left_more left2 c.put_decimal-j.ensures in
    let left4 = left_more left3 c.put_byte-at_c.ensures in
    let left5 = left_more left4 c.put_decimal-end.ensures in
    left_room left5 c.requires.1

pub returns : goal.returns
returns c =
    let left0 =
    begun _ _ _ _ _ c.term-a.ensures c.below_zero-minus_a.ensures c.magnitude-size_a.ensures c.below_zero-minus_c.ensures c.magnitude-size_c.ensures in
    let left1 = left_more left0 c.put_decimal-i.ensures in
    let left2 = left_more left1 c.put_byte-at_b.ensures in
    let left3 = left_more left2 c.put_decimal-j.ensures in
    let left4 = left_more left3 c.put_byte-at_c.ensures in
    let left5 = left_more left4 c.put_decimal-end.ensures in
    let left6 = left_more left5 c.put_byte.ensures in
    left_over left6
