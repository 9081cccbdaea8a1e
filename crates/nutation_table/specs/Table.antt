-- The table of nutation, with the figures of the IAU 1980 series: RULES, "Places". The terms of the nutation in longitude (sine) and in obliquity
-- (cosine), with the multipliers of the five arguments.
use Rattle.std.specs.Prelude.{List, [], ◌∷◌, ℕ, ℤ, pos, neg_ℤ}
use Rattle.nutation_table.specs.declared.Row.{Row}

-- The columns of a row: the figure of the longitude in 10^-4 arcsecond and its rate in 10^-5 a century (ten times the printed one, so that it is
-- whole), the same of the obliquity, and the multipliers of D, M, M', F and the node.
abbrev pub psi : Row → ℤ
psi r = r.0

abbrev pub psi_rate : Row → ℤ
psi_rate r = r.1

abbrev pub eps : Row → ℤ
eps r = r.2

abbrev pub eps_rate : Row → ℤ
eps_rate r = r.3

abbrev pub times_d : Row → ℤ
times_d r = r.4

abbrev pub times_m : Row → ℤ
times_m r = r.5

abbrev pub times_m1 : Row → ℤ
times_m1 r = r.6

abbrev pub times_f : Row → ℤ
times_f r = r.7

abbrev pub times_node : Row → ℤ
times_node r = r.8

abbrev pub row : ℤ → ℤ → ℤ → ℤ → ℤ → ℤ → ℤ → ℤ → ℤ → Row
row a b c d e f g h i = record { 0 = a; 1 = b; 2 = c; 3 = d; 4 = e; 5 = f; 6 = g; 7 = h; 8 = i }

abbrev pub neg : ℕ → ℤ
neg n = neg_ℤ (pos n)

unfoldable pub rows : List Row
rows =
    row (neg 171996) (neg 1742) (pos 92025) (pos 89) (pos 0) (pos 0) (pos 0) (pos 0) (pos 1) ∷
    row (neg 13187) (neg 16) (pos 5736) (neg 31) (neg 2) (pos 0) (pos 0) (pos 2) (pos 2) ∷
    row (neg 2274) (neg 2) (pos 977) (neg 5) (pos 0) (pos 0) (pos 0) (pos 2) (pos 2) ∷
    row (pos 2062) (pos 2) (neg 895) (pos 5) (pos 0) (pos 0) (pos 0) (pos 0) (pos 2) ∷
    row (pos 1426) (neg 34) (pos 54) (neg 1) (pos 0) (pos 1) (pos 0) (pos 0) (pos 0) ∷
    row (pos 712) (pos 1) (neg 7) (pos 0) (pos 0) (pos 0) (pos 1) (pos 0) (pos 0) ∷
    row (neg 517) (pos 12) (pos 224) (neg 6) (neg 2) (pos 1) (pos 0) (pos 2) (pos 2) ∷
    row (neg 386) (neg 4) (pos 200) (pos 0) (pos 0) (pos 0) (pos 0) (pos 2) (pos 1) ∷
    row (neg 301) (pos 0) (pos 129) (neg 1) (pos 0) (pos 0) (pos 1) (pos 2) (pos 2) ∷
    row (pos 217) (neg 5) (neg 95) (pos 3) (neg 2) (neg 1) (pos 0) (pos 2) (pos 2) ∷
    row (neg 158) (pos 0) (neg 1) (pos 0) (neg 2) (pos 0) (pos 1) (pos 0) (pos 0) ∷
    row (pos 129) (pos 1) (neg 70) (pos 0) (neg 2) (pos 0) (pos 0) (pos 2) (pos 1) ∷
    row (pos 123) (pos 0) (neg 53) (pos 0) (pos 0) (pos 0) (neg 1) (pos 2) (pos 2) ∷
    row (pos 63) (pos 1) (neg 33) (pos 0) (pos 0) (pos 0) (pos 1) (pos 0) (pos 1) ∷
    row (pos 63) (pos 0) (neg 2) (pos 0) (pos 2) (pos 0) (pos 0) (pos 0) (pos 0) ∷
    row (neg 59) (pos 0) (pos 26) (pos 0) (pos 2) (pos 0) (neg 1) (pos 2) (pos 2) ∷
    row (neg 58) (neg 1) (pos 32) (pos 0) (pos 0) (pos 0) (neg 1) (pos 0) (pos 1) ∷
    row (neg 51) (pos 0) (pos 27) (pos 0) (pos 0) (pos 0) (pos 1) (pos 2) (pos 1) ∷
    row (pos 48) (pos 0) (pos 1) (pos 0) (neg 2) (pos 0) (pos 2) (pos 0) (pos 0) ∷
    row (pos 46) (pos 0) (neg 24) (pos 0) (pos 0) (pos 0) (neg 2) (pos 2) (pos 1) ∷
    row (neg 38) (pos 0) (pos 16) (pos 0) (pos 2) (pos 0) (pos 0) (pos 2) (pos 2) ∷
    row (neg 31) (pos 0) (pos 13) (pos 0) (pos 0) (pos 0) (pos 2) (pos 2) (pos 2) ∷
    row (pos 29) (pos 0) (neg 1) (pos 0) (pos 0) (pos 0) (pos 2) (pos 0) (pos 0) ∷
    row (pos 29) (pos 0) (neg 12) (pos 0) (neg 2) (pos 0) (pos 1) (pos 2) (pos 2) ∷
    row (pos 26) (pos 0) (neg 1) (pos 0) (pos 0) (pos 0) (pos 0) (pos 2) (pos 0) ∷
    row (neg 22) (pos 0) (pos 0) (pos 0) (neg 2) (pos 0) (pos 0) (pos 2) (pos 0) ∷
    row (pos 21) (pos 0) (neg 10) (pos 0) (pos 0) (pos 0) (neg 1) (pos 2) (pos 1) ∷
    row (pos 17) (neg 1) (pos 0) (pos 0) (pos 0) (pos 2) (pos 0) (pos 0) (pos 0) ∷
    row (neg 16) (pos 1) (pos 7) (pos 0) (neg 2) (pos 2) (pos 0) (pos 2) (pos 2) ∷
    row (pos 16) (pos 0) (neg 8) (pos 0) (pos 2) (pos 0) (neg 1) (pos 0) (pos 1) ∷
    row (neg 15) (pos 0) (pos 9) (pos 0) (pos 0) (pos 1) (pos 0) (pos 0) (pos 1) ∷
    row (neg 13) (pos 0) (pos 7) (pos 0) (neg 2) (pos 0) (pos 1) (pos 0) (pos 1) ∷
    row (neg 12) (pos 0) (pos 6) (pos 0) (pos 0) (neg 1) (pos 0) (pos 0) (pos 1) ∷
    row (pos 11) (pos 0) (pos 0) (pos 0) (pos 0) (pos 0) (pos 2) (neg 2) (pos 0) ∷
    row (neg 10) (pos 0) (pos 5) (pos 0) (pos 2) (pos 0) (neg 1) (pos 2) (pos 1) ∷
    row (neg 8) (pos 0) (pos 3) (pos 0) (pos 2) (pos 0) (pos 1) (pos 2) (pos 2) ∷
    row (neg 7) (pos 0) (pos 3) (pos 0) (pos 0) (neg 1) (pos 0) (pos 2) (pos 2) ∷
    row (neg 7) (pos 0) (pos 3) (pos 0) (pos 2) (pos 0) (pos 0) (pos 2) (pos 1) ∷
    row (neg 7) (pos 0) (pos 0) (pos 0) (neg 2) (pos 1) (pos 1) (pos 0) (pos 0) ∷
    row (pos 7) (pos 0) (neg 3) (pos 0) (pos 0) (pos 1) (pos 0) (pos 2) (pos 2) ∷
    row (neg 6) (pos 0) (pos 3) (pos 0) (pos 2) (pos 0) (neg 2) (pos 0) (pos 1) ∷
    row (neg 6) (pos 0) (pos 3) (pos 0) (pos 2) (pos 0) (pos 0) (pos 0) (pos 1) ∷
    row (pos 6) (pos 0) (neg 3) (pos 0) (neg 2) (pos 0) (pos 2) (pos 2) (pos 2) ∷
    row (pos 6) (pos 0) (pos 0) (pos 0) (pos 2) (pos 0) (pos 1) (pos 0) (pos 0) ∷
    row (pos 6) (pos 0) (neg 3) (pos 0) (neg 2) (pos 0) (pos 1) (pos 2) (pos 1) ∷
    row (neg 5) (pos 0) (pos 3) (pos 0) (neg 2) (pos 0) (pos 0) (pos 0) (pos 1) ∷
    row (neg 5) (pos 0) (pos 3) (pos 0) (neg 2) (neg 1) (pos 0) (pos 2) (pos 1) ∷
    row (neg 5) (pos 0) (pos 3) (pos 0) (pos 0) (pos 0) (pos 2) (pos 2) (pos 1) ∷
    row (pos 5) (pos 0) (pos 0) (pos 0) (pos 0) (neg 1) (pos 1) (pos 0) (pos 0) ∷
    row (neg 4) (pos 0) (pos 0) (pos 0) (neg 1) (pos 0) (pos 1) (pos 0) (pos 0) ∷
    row (neg 4) (pos 0) (pos 0) (pos 0) (pos 1) (pos 0) (pos 0) (pos 0) (pos 0) ∷
    row (neg 4) (pos 0) (pos 0) (pos 0) (neg 2) (pos 1) (pos 0) (pos 0) (pos 0) ∷
    row (pos 4) (pos 0) (pos 0) (pos 0) (pos 0) (pos 0) (pos 1) (neg 2) (pos 0) ∷
    row (pos 4) (pos 0) (neg 2) (pos 0) (neg 2) (pos 0) (pos 2) (pos 0) (pos 1) ∷
    row (pos 4) (pos 0) (neg 2) (pos 0) (neg 2) (pos 1) (pos 0) (pos 2) (pos 1) ∷
    row (neg 3) (pos 0) (pos 0) (pos 0) (pos 0) (pos 1) (pos 1) (pos 0) (pos 0) ∷
    row (neg 3) (pos 0) (pos 0) (pos 0) (neg 1) (neg 1) (pos 1) (pos 0) (pos 0) ∷
    row (neg 3) (pos 0) (pos 1) (pos 0) (pos 2) (neg 1) (neg 1) (pos 2) (pos 2) ∷
    row (neg 3) (pos 0) (pos 1) (pos 0) (pos 2) (neg 1) (pos 0) (pos 2) (pos 2) ∷
    row (neg 3) (pos 0) (pos 1) (pos 0) (pos 0) (neg 1) (pos 1) (pos 2) (pos 2) ∷
    row (neg 3) (pos 0) (pos 1) (pos 0) (pos 0) (pos 0) (pos 3) (pos 2) (pos 2) ∷
    row (neg 3) (pos 0) (pos 1) (pos 0) (pos 0) (pos 0) (neg 2) (pos 2) (pos 2) ∷
    row (pos 3) (pos 0) (pos 0) (pos 0) (pos 0) (pos 0) (pos 1) (pos 2) (pos 0) ∷
    row (neg 2) (pos 0) (pos 1) (pos 0) (pos 4) (pos 0) (neg 1) (pos 2) (pos 2) ∷
    row (neg 2) (pos 0) (pos 1) (pos 0) (pos 0) (pos 0) (pos 1) (pos 0) (pos 2) ∷
    row (neg 2) (pos 0) (pos 1) (pos 0) (neg 2) (pos 0) (neg 1) (pos 2) (pos 1) ∷
    row (neg 2) (pos 0) (pos 1) (pos 0) (neg 2) (neg 2) (pos 0) (pos 2) (pos 1) ∷
    row (neg 2) (pos 0) (pos 1) (pos 0) (pos 0) (pos 0) (neg 2) (pos 0) (pos 1) ∷
    row (pos 2) (pos 0) (neg 1) (pos 0) (pos 0) (pos 0) (pos 2) (pos 0) (pos 1) ∷
    row (pos 2) (pos 0) (pos 0) (pos 0) (pos 0) (pos 0) (pos 3) (pos 0) (pos 0) ∷
    row (pos 2) (pos 0) (neg 1) (pos 0) (pos 0) (pos 1) (pos 1) (pos 2) (pos 2) ∷
    row (pos 2) (pos 0) (neg 1) (pos 0) (pos 1) (pos 0) (pos 0) (pos 2) (pos 2) ∷
    row (neg 1) (pos 0) (pos 0) (pos 0) (pos 2) (pos 0) (pos 1) (pos 0) (pos 1) ∷
    row (neg 1) (pos 0) (pos 1) (pos 0) (pos 2) (pos 0) (pos 1) (pos 2) (pos 1) ∷
    row (neg 1) (pos 0) (pos 0) (pos 0) (neg 2) (pos 1) (pos 1) (pos 0) (pos 1) ∷
    row (neg 1) (pos 0) (pos 0) (pos 0) (pos 2) (pos 1) (pos 0) (pos 0) (pos 0) ∷
    row (neg 1) (pos 0) (pos 0) (pos 0) (neg 2) (pos 1) (pos 0) (pos 2) (pos 0) ∷
    row (neg 1) (pos 0) (pos 0) (pos 0) (pos 2) (pos 1) (pos 0) (neg 2) (pos 0) ∷
    row (neg 1) (pos 0) (pos 0) (pos 0) (pos 2) (pos 0) (pos 1) (neg 2) (pos 0) ∷
    row (neg 1) (pos 0) (pos 0) (pos 0) (neg 2) (pos 0) (pos 1) (neg 2) (pos 0) ∷
    row (neg 1) (pos 0) (pos 0) (pos 0) (neg 2) (pos 0) (pos 1) (pos 2) (pos 0) ∷
    row (neg 1) (pos 0) (pos 0) (pos 0) (neg 4) (pos 0) (pos 1) (pos 0) (pos 0) ∷
    row (neg 1) (pos 0) (pos 0) (pos 0) (neg 4) (pos 0) (pos 2) (pos 0) (pos 0) ∷
    row (neg 1) (pos 0) (pos 0) (pos 0) (pos 4) (pos 0) (pos 0) (pos 2) (pos 2) ∷
    row (neg 1) (pos 0) (pos 0) (pos 0) (neg 1) (pos 0) (pos 0) (pos 2) (pos 2) ∷
    row (neg 1) (pos 0) (pos 1) (pos 0) (pos 4) (pos 0) (neg 2) (pos 2) (pos 2) ∷
    row (neg 1) (pos 0) (pos 0) (pos 0) (pos 2) (pos 0) (pos 2) (pos 2) (pos 2) ∷
    row (neg 1) (pos 0) (pos 0) (pos 0) (pos 0) (neg 1) (pos 0) (pos 2) (pos 1) ∷
    row (neg 1) (pos 0) (pos 0) (pos 0) (pos 0) (pos 0) (pos 0) (neg 2) (pos 1) ∷
    row (pos 1) (pos 0) (pos 0) (pos 0) (neg 2) (pos 0) (pos 0) (pos 4) (pos 2) ∷
    row (pos 1) (pos 0) (pos 0) (pos 0) (pos 0) (pos 1) (pos 0) (pos 0) (pos 2) ∷
    row (pos 1) (pos 0) (neg 1) (pos 0) (neg 2) (pos 1) (pos 1) (pos 2) (pos 2) ∷
    row (pos 1) (pos 0) (pos 0) (pos 0) (neg 2) (pos 0) (pos 3) (pos 2) (pos 2) ∷
    row (pos 1) (pos 0) (neg 1) (pos 0) (pos 2) (pos 0) (neg 2) (pos 2) (pos 2) ∷
    row (pos 1) (pos 0) (neg 1) (pos 0) (pos 0) (pos 0) (neg 1) (pos 0) (pos 2) ∷
    row (pos 1) (pos 0) (pos 0) (pos 0) (pos 2) (pos 0) (pos 0) (neg 2) (pos 1) ∷
    row (pos 1) (pos 0) (pos 0) (pos 0) (pos 0) (pos 1) (pos 0) (pos 2) (pos 1) ∷
    row (pos 1) (pos 0) (pos 0) (pos 0) (pos 0) (pos 0) (neg 1) (pos 4) (pos 2) ∷
    row (pos 1) (pos 0) (pos 0) (pos 0) (neg 2) (pos 1) (pos 2) (pos 0) (pos 0) ∷
    row (pos 1) (pos 0) (pos 0) (pos 0) (pos 2) (pos 0) (pos 2) (pos 0) (pos 0) ∷
    row (pos 1) (pos 0) (neg 1) (pos 0) (neg 2) (pos 0) (pos 2) (pos 2) (pos 1) ∷
    row (pos 1) (pos 0) (pos 0) (pos 0) (pos 0) (pos 0) (pos 2) (neg 2) (pos 1) ∷
    row (pos 1) (pos 0) (pos 0) (pos 0) (neg 2) (neg 1) (pos 1) (pos 0) (pos 0) ∷
    row (pos 1) (pos 0) (pos 0) (pos 0) (pos 1) (pos 0) (neg 1) (pos 0) (pos 1) ∷
    row (pos 1) (pos 0) (pos 0) (pos 0) (pos 2) (neg 1) (neg 1) (pos 0) (pos 1) ∷
    row (pos 1) (pos 0) (pos 0) (pos 0) (pos 1) (pos 1) (pos 0) (pos 0) (pos 0) ∷
    []

-- What stands past the end of the table.
abbrev pub no_row : Row
no_row = row (pos 0) (pos 0) (pos 0) (pos 0) (pos 0) (pos 0) (pos 0) (pos 0) (pos 0)
