-- Two tables of lines of vectors/exact.txt, and what makes a line right: the exact test (RULES, "Sun list") says of its series, instant and angle what the
-- line says.
use Rattle.std.specs.Prelude.{Bool, true, false, List, [], ◌∷◌, ℕ, ℤ, pos, neg_ℤ}
use Rattle.limits.specs.declared.Term.{Term}
use Rattle.separation.specs.Exact.{WithinArcminutes}
use Rattle.sunlist.specs.Demand.{exact_coordinates}

-- A line: the series of planet and Earth as blocks of terms, t in milliseconds, k arcminutes, and whether the planet is within.
pub record Line : Type 0 where
  pub planet : List (List Term)
  pub earth : List (List Term)
  pub t : ℤ
  pub k : ℕ
  pub within : Bool

-- A line's word about a statement.
abbrev pub Says : Bool → Type 0 → Type 0
Says true P = P
Says false P = P → ⊥

abbrev pub Right : Line → Type 0
Right l =
    Says l.within
    (WithinArcminutes l.k (exact_coordinates (record { ms = l.t }) l.planet) (exact_coordinates (record { ms = l.t }) l.earth))

abbrev pub AllRight : List Line → Type 0
AllRight [] = Unit
AllRight (l ∷ ls) = Right l × AllRight ls

abbrev minus : ℕ → ℤ
minus n = neg_ℤ (pos n)

-- A series of 18 blocks, empty but for the first of R.
abbrev of_radius : List Term → List (List Term)
of_radius r = [] ∷ [] ∷ [] ∷ [] ∷ [] ∷ [] ∷ [] ∷ [] ∷ [] ∷ [] ∷ [] ∷ [] ∷ r ∷ [] ∷ [] ∷ [] ∷ [] ∷ [] ∷ []

abbrev constant_term : ℤ → Term
constant_term a = record { a = a; b = 0; c = pos 0 }

-- A series whose R alone is not 0, and constant; its one term is in the first block of R.
abbrev still : ℤ → List (List Term)
still r = of_radius (constant_term r ∷ [])

-- At 1 AU, within it, beyond it, just as far on the other side, and the empty series, whose body is in the Sun.
abbrev one_au : List (List Term)
one_au = still (pos 100000000000)

abbrev inside : List (List Term)
inside = still (pos 50000000000)

abbrev outside : List (List Term)
outside = still (pos 200000000000)

abbrev opposite : List (List Term)
opposite = still (minus 100000000000)

abbrev in_the_sun : List (List Term)
in_the_sun = of_radius []

-- A line at t = 0.
abbrev line : List (List Term) → List (List Term) → ℕ → Bool → Line
line planet earth k within = record { planet = planet; earth = earth; t = pos 0; k = k; within = within }

-- Each with the number that it has in the file.
abbrev pub line_95 : Line
line_95 = line inside one_au 0 true

abbrev pub line_97 : Line
line_97 = line inside one_au 60 true

abbrev pub line_99 : Line
line_99 = line inside one_au 2702 true

abbrev pub line_100 : Line
line_100 = line outside one_au 0 false

abbrev pub line_103 : Line
line_103 = line outside one_au 2702 false

abbrev pub line_104 : Line
line_104 = line one_au one_au 0 false

abbrev pub line_107 : Line
line_107 = line one_au one_au 2702 false

abbrev pub line_108 : Line
line_108 = line in_the_sun one_au 0 true

abbrev pub line_109 : Line
line_109 = line in_the_sun one_au 60 true

abbrev pub line_110 : Line
line_110 = line one_au in_the_sun 0 false

abbrev pub line_112 : Line
line_112 = line opposite one_au 0 true

abbrev pub line_113 : Line
line_113 = line opposite one_au 60 true

-- The table of these, which are in line with the Sun.
abbrev pub lines : List Line
lines =
    line_95 ∷ line_97 ∷ line_99 ∷ line_100 ∷ line_103 ∷ line_104 ∷ line_107 ∷ line_108 ∷ line_109 ∷ line_110 ∷ line_112 ∷ line_113 ∷ []

-- A series whose L, B and R are constant, and one whose L has a second term and whose B is 0.
abbrev at_rest : (l b r : ℤ) → List (List Term)
at_rest l b r =
    (constant_term l ∷ []) ∷ [] ∷ [] ∷ [] ∷ [] ∷ [] ∷ (constant_term b ∷ []) ∷ [] ∷ [] ∷ [] ∷ [] ∷ [] ∷ (constant_term r ∷ []) ∷ [] ∷ [] ∷ [] ∷ [] ∷ [] ∷ []

abbrev swinging : (l : ℤ) → Term → (r : ℤ) → List (List Term)
swinging l x r =
    (constant_term l ∷ x ∷ []) ∷ [] ∷ [] ∷ [] ∷ [] ∷ [] ∷ [] ∷ [] ∷ [] ∷ [] ∷ [] ∷ [] ∷ (constant_term r ∷ []) ∷ [] ∷ [] ∷ [] ∷ [] ∷ [] ∷ []

-- Lines at an angle: 1,002 arcminutes from the Sun just before two millennia after 2000, 99 five minutes before t = 0, and 1,944 some 1,180 years before.
abbrev pub late : ℕ → Bool → Line
late k within = record {
  planet = at_rest (pos 507209511301) (minus 6707974031) (pos 68435804865);
  earth = swinging (pos 413757402167) (record { a = pos 40853191113; b = 902456102881; c = pos 89742248811836923 }) (pos 189478458001);
  t = pos 63115199999179;
  k = k;
  within = within;
}

abbrev pub between : ℕ → Bool → Line
between k within = record {
  planet = at_rest (pos 395433127974) (pos 2416989090) (pos 60544433775);
  earth = swinging (pos 84170855494) (record { a = pos 36982275088; b = 820724541237; c = pos 82437142711730518 }) (pos 146120021771);
  t = minus 318796;
  k = k;
  within = within;
}

abbrev pub early : ℕ → Bool → Line
early k within = record {
  planet = at_rest (pos 283753724344) (minus 6347607688) (pos 49119090154);
  earth = swinging (pos 430626457202) (record { a = pos 47369073353; b = 225515017954; c = pos 24835036284180718 }) (pos 54303004643);
  t = minus 37297416457365;
  k = k;
  within = within;
}

-- Beyond two millennia: 1,052 arcminutes from the Sun nearly ten years after them, and 1,835 some 2,325 years before 2000.
abbrev pub beyond : ℕ → Bool → Line
beyond k within = record {
  planet = at_rest (pos 443424073057) (minus 10529972384) (pos 150685076991);
  earth = swinging (pos 155136262727) (record { a = pos 67415120962; b = 185491426084; c = pos 95448381732782847 }) (pos 60255767985);
  t = pos 63422976123336;
  k = k;
  within = within;
}

abbrev pub long_before : ℕ → Bool → Line
long_before k within = record {
  planet = at_rest (pos 54494851568) (minus 4654020793) (pos 146219417657);
  earth = swinging (pos 303633010119) (record { a = pos 19339663679; b = 540688546217; c = pos 57273397583803246 }) (pos 85768547788);
  t = minus 73377153420022;
  k = k;
  within = within;
}

-- A series far from the published ones: its L has a great term of the greatest rate, and every power of tau with the greatest amplitude.
abbrev wild : (great : ℤ) (b : ℕ) (a r : ℤ) → List (List Term)
wild great b a r =
    (record { a = great; b = b; c = pos 99999999999999999 } ∷ [])
    ∷ (constant_term a ∷ []) ∷ (constant_term a ∷ []) ∷ (constant_term a ∷ []) ∷ (constant_term a ∷ []) ∷ (constant_term a ∷ [])
    ∷ [] ∷ [] ∷ [] ∷ [] ∷ [] ∷ [] ∷ (constant_term r ∷ []) ∷ [] ∷ [] ∷ [] ∷ [] ∷ [] ∷ []

-- Two such bodies near two millennia before 2000: 1,304 arcminutes from the Sun, and 1,257 a minute later.
abbrev pub first_minute : ℕ → Bool → Line
first_minute k within = record {
  planet = wild (pos 14200000000000) 380713211500 (pos 9999999999999999) (pos 60000000000);
  earth = wild (pos 14200000000000) 66553946141 (minus 9999999999999999) (pos 100000000000);
  t = minus 63115197120000;
  k = k;
  within = within;
}

abbrev pub next_minute : ℕ → Bool → Line
next_minute k within = record {
  planet = (first_minute k within).planet;
  earth = (first_minute k within).earth;
  t = minus 63115197060000;
  k = k;
  within = within;
}

-- And two near the first instant, with what the wide range allows: 1,422 arcminutes, and 2,160 a minute later.
abbrev pub wide_minute : ℕ → Bool → Line
wide_minute k within = record {
  planet = wild (pos 33200000000000) 309200378516 (pos 5000000000000000) (pos 60000000000);
  earth = wild (pos 33200000000000) 623359643875 (minus 5000000000000000) (pos 100000000000);
  t = minus 126230392440000;
  k = k;
  within = within;
}

abbrev pub minute_after : ℕ → Bool → Line
minute_after k within = record {
  planet = (wide_minute k within).planet;
  earth = (wide_minute k within).earth;
  t = minus 126230392380000;
  k = k;
  within = within;
}

abbrev pub line_123 : Line
line_123 = beyond 1051 false

abbrev pub line_126 : Line
line_126 = beyond 1054 true

abbrev pub line_135 : Line
line_135 = long_before 1834 false

abbrev pub line_138 : Line
line_138 = long_before 1837 true

abbrev pub line_158 : Line
line_158 = wide_minute 2024 true

abbrev pub line_161 : Line
line_161 = minute_after 2024 false

abbrev pub line_336 : Line
line_336 = late 1000 false

abbrev pub line_337 : Line
line_337 = late 1001 false

abbrev pub line_340 : Line
line_340 = late 1004 true

abbrev pub line_344 : Line
line_344 = between 98 false

abbrev pub line_347 : Line
line_347 = between 101 true

abbrev pub line_348 : Line
line_348 = between 102 true

abbrev pub line_416 : Line
line_416 = early 1943 false

abbrev pub line_419 : Line
line_419 = early 1946 true

abbrev pub line_420 : Line
line_420 = early 1947 true

abbrev pub line_461 : Line
line_461 = first_minute 1266 false

abbrev pub line_463 : Line
line_463 = first_minute 1268 false

abbrev pub line_464 : Line
line_464 = next_minute 1266 true

-- The table of these.
abbrev pub at_an_angle : List Line
at_an_angle =
    line_123 ∷ line_126 ∷ line_135 ∷ line_138 ∷ line_158 ∷ line_161
    ∷ line_336 ∷ line_337 ∷ line_340 ∷ line_344 ∷ line_347 ∷ line_348 ∷ line_416 ∷ line_419 ∷ line_420 ∷ line_461 ∷ line_463 ∷ line_464 ∷ []
