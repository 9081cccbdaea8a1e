-- The three lines of a place: right ascension and declination in degrees, the distance in AU, each with the library's own whole number after it.
use Rattle.std.specs.Prelude.{List, [], ◌∷◌, ◌++◌, ℕ, ◌+◌, ◌*◌, ◌/◌, ◌^◌, ℤ, nat_abs}
use Rattle.integers.specs.Signs.{negative}
use Rattle.decimals.specs.Texts.{text, line_feed}
use Rattle.decimals.specs.Decimals.{most_digits, signed_decimal, fraction}
use Rattle.place.specs.declared.Equatorial.{Equatorial}
use Rattle.place.specs.Mount.{hundredths_per_degree}

-- The digits after the point of a degree, and of an AU.
abbrev pub degree_places : ℕ
degree_places = 7

abbrev pub distance_places : ℕ
distance_places = 11

-- A line: a name, n over ten to the number of places with the sign of k, a unit of measure, and k.
unfoldable pub line_text : List ℕ → ℤ → ℕ → ℕ → List ℕ → List ℕ
line_text name k places n measure = name ++ (fraction (negative k) places n ++ (measure ++ (signed_decimal k ++ (line_feed ∷ []))))

-- The size of k hundredths of an arcsecond in the last decimal of a degree, rounded.
abbrev pub degree_size : ℤ → ℕ
degree_size k = (10 ^ degree_places * nat_abs k + hundredths_per_degree / 2) / hundredths_per_degree

unfoldable pub angle_text : List ℕ → ℤ → List ℕ
angle_text name k = line_text name k degree_places (degree_size k) (text " degrees, ")

-- A distance is in parts of an AU, which are its last decimal.
unfoldable pub distance_text : ℤ → List ℕ
distance_text d = line_text (text "distance ") d distance_places (nat_abs d) (text " AU, ")

unfoldable pub place_text : Equatorial → List ℕ
place_text p =
    angle_text (text "right ascension ") p.right_ascension
    ++ (angle_text (text "declination ") p.declination ++ distance_text p.distance)

-- The name of an angle is at most so long.
abbrev pub name_most : ℕ
name_most = 16

-- Beside its name, its places and its unit of measure a line has at most a sign, whole digits and a point, the whole number with its sign, and the
-- line feed.
abbrev pub numbers_most : ℕ
numbers_most = (2 + most_digits) + (1 + most_digits) + 1

-- No line is longer, and no place.
abbrev pub line_most : ℕ
line_most = 90

abbrev pub place_most : ℕ
place_most = 3 * line_most
