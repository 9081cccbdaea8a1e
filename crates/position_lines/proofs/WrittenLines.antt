-- What the functions that write a place leave in the output are its lines. Assumes nothing.
use mathlib.Core.Path.{◌≡◌, ap, ◌∙◌}
use mathlib.Core.Bool.{Bool, true, false}
use mathlib.Core.List.{append_assoc, List, [], ◌∷◌, ◌++◌}
use Prim.Native.Nat.{ℕ, ◌+◌, ◌/◌, ◌^◌, ◌≤◌}
use native.Mathlib.Omega.{arith}
use lib.Dec.{lit≤}
use lib.IntN.{ℤ, nat_abs}
use lib.ListN.{length, length-append}
use Rattle.integers.specs.Signs.{negative}
use Rattle.arith.proofs.Cells.{Cell, cell}
use Rattle.decimals.specs.Texts.{text, line_feed}
use Rattle.decimals.specs.Decimals.{most_digits, point, decimal, written, last_digits, fraction, signed_decimal}
use Rattle.decimals.proofs.Digits.{decimal_length, signed_length, last_length}
use Rattle.place.specs.declared.Equatorial.{Equatorial}
use Rattle.position_lines.specs.Lines.{degree_places, distance_places, line_text, degree_size, angle_text, distance_text, place_text}
use Rattle.position_lines.specs.Lines.{name_most, numbers_most, line_most, place_most}

-- ---- lengths
pub fraction_length : (below : Bool) (k n : ℕ) → length (fraction below k n) ≤ 2 + most_digits + k
unfolding fraction
fraction_length below k n = go below
  where
    d : List ℕ
    d = decimal most_digits (n / 10 ^ k)

    both : length (d ++ (point ∷ last_digits k n)) ≤ 1 + most_digits + k
    both = omega (arith, length-append d (point ∷ last_digits k n), decimal_length most_digits (n / 10 ^ k), last_length k n)

    go : (below : Bool) → length (written below (d ++ (point ∷ last_digits k n))) ≤ 2 + most_digits + k
    go true = omega (arith, both)
    go false = omega (arith, both)

line_length : (name measure : List ℕ) (k : ℤ) (places n : ℕ)
    → length (line_text name k places n measure) ≤ length name + (numbers_most + places) + length measure
unfolding line_text
line_length name measure k places n =
    let f = fraction_length (negative k) places n in
    let s = signed_length k in
    simp length-append (omega arith)

angle_length : (name : List ℕ) (k : ℤ) → length name ≤ name_most → length (angle_text name k) ≤ line_most
unfolding angle_text text
angle_length name k h = omega (arith, line_length name (text " degrees, ") k degree_places (degree_size k))

distance_length : (d : ℤ) → length (distance_text d) ≤ line_most
unfolding distance_text text
distance_length d = omega (arith, line_length (text "distance ") (text " AU, ") d distance_places (nat_abs d))

pub place_length : (p : Equatorial) → length (place_text p) ≤ place_most
unfolding place_text text
place_length p =
    let a = angle_length (text "right ascension ") p.right_ascension (lit≤ tt) in
    let b = angle_length (text "declination ") p.declination (lit≤ tt) in
    let d = distance_length p.distance in
    simp length-append (omega arith)

pub after_angle : (name : List ℕ) (k : ℤ) (old new : List ℕ) → new ≡ old ++ angle_text name k → length name ≤ name_most
    → length new ≤ length old + line_most
after_angle name k old new e h = rw (e, length-append old (angle_text name k)) (omega (arith, angle_length name k h))

-- ---- what is written
pub line_put : (name measure : List ℕ) (k : ℤ) (below : Bool) (places n : ℕ) (old o1 o2 o3 o4 o5 : List ℕ) → below ≡ negative k → o1 ≡ old ++ name
    → o2 ≡ o1 ++ fraction below places n → o3 ≡ o2 ++ measure → o4 ≡ o3 ++ signed_decimal k → o5 ≡ o4 ++ line_feed ∷ []
    → o5 ≡ old ++ line_text name k places n measure
unfolding line_text
line_put name measure k below places n old o1 o2 o3 o4 o5 e p1 p2 p3 p4 p5 = rw (p5, p4, p3, p2, p1, e) (simp append_assoc)

pub angle_put : (name : List ℕ) (k : ℤ) (n : ℕ) (old new : List ℕ) → new ≡ old ++ line_text name k degree_places n (text " degrees, ")
    → n ≡ degree_size k → new ≡ old ++ angle_text name k
unfolding angle_text
angle_put name k n old new h e = rw e at h

pub distance_put : (d : ℤ) (m : ℕ) (old new : List ℕ) → m ≡ nat_abs d
    → new ≡ old ++ line_text (text "distance ") d distance_places m (text " AU, ") → new ≡ old ++ distance_text d
unfolding distance_text
distance_put d m old new e h = rw e at h

pub place_put : (p : Equatorial) (old o1 o2 o3 : List ℕ) → o1 ≡ old ++ angle_text (text "right ascension ") p.right_ascension
    → o2 ≡ o1 ++ angle_text (text "declination ") p.declination → o3 ≡ o2 ++ distance_text p.distance → o3 ≡ old ++ place_text p
unfolding place_text
place_put p old o1 o2 o3 p1 p2 p3 = rw (p3, p2, p1) (simp append_assoc)

-- A size that is read back from a signed number's bits.
pub small : (k : ℤ) (m : ℕ) → nat_abs k ≤ 2 ^ 52 → m ≡ nat_abs (Cell k) → m ≤ 2 ^ 52
small k m h e = let p = e ∙ ap nat_abs (cell k (omega arith)) in omega arith
