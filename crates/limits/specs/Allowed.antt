-- RULES, "Series, as text and packed": what the limits say of the blocks of a whole series.
use Rattle.std.specs.Prelude.{◌≡◌, cond, List, [], ◌∷◌, ℕ, suc, ◌+◌, ◌*◌, ◌^◌, ◌≤◌, ◌<◌, nat_abs, length, get_or, take, drop}
use Rattle.units.specs.Units.{U, coarse_tau, a_limit, b_limit, c_limit, block_limit, series_limit, total_limit, powers, block_count}
use Rattle.units.specs.Units.{coarse_share, coarse_base, coarse_limit}
use Rattle.limits.specs.declared.Term.{Term}
use Rattle.limits.specs.Limits.{constant}

-- The limits of a term.
pub record TermFits (t : Term) : Type 0 where
  pub a_below : nat_abs t.a < a_limit
  pub b_below : t.b < b_limit
  pub c_below : nat_abs t.c < c_limit

pub data AllFit : List Term → Type 0 where
  none : AllFit []
  more : {t : Term} {ts : List Term} → TermFits t → AllFit ts → AllFit (t ∷ ts)

-- The total |a| of a block; A_i and n_i, the total |a| and the number of its terms that are not constant.
unfoldable pub total_of : List Term → ℕ
total_of [] = 0
total_of (t ∷ ts) = nat_abs t.a + total_of ts

unfoldable pub moving_total : List Term → ℕ
moving_total [] = 0
moving_total (t ∷ ts) = cond (constant t.b t.c) 0 (nat_abs t.a) + moving_total ts

unfoldable pub moving_count : List Term → ℕ
moving_count [] = 0
moving_count (t ∷ ts) = cond (constant t.b t.c) 0 1 + moving_count ts

-- The limits of a block.
pub record BlockFits (ts : List Term) : Type 0 where
  pub few : length ts ≤ block_limit
  pub terms : AllFit ts
  pub total : total_of ts ≤ total_limit

-- The coarseness sum over blocks, the first of which has power i: each block's share of A_i and U for each of its n_i terms, times the
-- greatest |tau| to its power. The rule has `coarse_tau` and `coarse_share`.
unfoldable pub coarseness_by : (tau share : ℕ) → ℕ → List (List Term) → ℕ
coarseness_by tau share i [] = 0
coarseness_by tau share i (ts ∷ blocks) = tau ^ i * (share * moving_total ts + U * moving_count ts) + coarseness_by tau share (suc i) blocks

abbrev pub coarseness : ℕ → List (List Term) → ℕ
coarseness i blocks = coarseness_by coarse_tau coarse_share i blocks

-- The six blocks of coordinate q: 0 longitude, 1 latitude, 2 radius.
abbrev pub coordinate : ℕ → List (List Term) → List (List Term)
coordinate q blocks = take powers (drop (powers * q) blocks)

-- The number of terms of a series.
unfoldable pub term_count : List (List Term) → ℕ
term_count [] = 0
term_count (ts ∷ blocks) = length ts + term_count blocks

-- A series within the limits, with any share in the coarseness rule, and with the rule's own.
pub record AllowedBy (share : ℕ) (blocks : List (List Term)) : Type 0 where
  pub eighteen : length blocks ≡ block_count
  pub few : term_count blocks ≤ series_limit
  pub fits : (k : ℕ) → k < block_count → BlockFits (get_or blocks k [])
  pub coarse : (q : ℕ) → q < 3 → coarseness_by coarse_tau share 0 (coordinate q blocks) + coarse_base ≤ coarse_limit

abbrev pub Allowed : List (List Term) → Type 0
Allowed blocks = AllowedBy coarse_share blocks
