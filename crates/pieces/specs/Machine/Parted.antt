-- A piece of a block, and the two tables that it is parted into, by the parity of each term's quarter.
use Rattle.std.specs.Prelude.{◌≡◌, List, ℕ, zero, suc, ◌+◌, ◌-◌, ◌≤◌, ◌<◌, ℤ, pos, nat_abs, ◌+ℤ◌, length, get_or, set}
use Rattle.units.specs.Units.{a_limit, series_limit}
use Rattle.cosine.specs.Terms.{term_value}
use Rattle.cosine.specs.Machine.Parity.{even_value, odd_value, value_by_parity, InRange}
use Rattle.cosine.specs.declared.term.ReducedTerm.{ReducedTerm}
use Rattle.limits.specs.declared.Term.{Term}
use Rattle.limits.specs.Allowed.{BlockFits}
use Rattle.packed.specs.declared.table.Table.{Table}
use Rattle.packed.specs.Machine.Table.{terms_at}
use Rattle.pieces.specs.declared.Counts.{Counts}
use Rattle.pieces.specs.declared.Placed.{Placed}
use Rattle.pieces.specs.Sums.{block_sum}

-- The terms of a piece are at most so many; a table has one place more.
abbrev pub piece_limit : ℕ
piece_limit = 128

abbrev pub room : ℕ
room = piece_limit + 1

-- What is asked of the terms from place from up to place to of a term table, for them to be summed.
pub record Piece (rows : Table) (from to : ℕ) : Type 0 where
  pub order : from ≤ to
  pub space : to ≤ series_limit
  pub short : to ≤ from + piece_limit
  pub limits : BlockFits (terms_at rows from (to - from))

-- The tables have room for a piece.
pub record Rooms (es os : List Placed) : Type 0 where
  pub evens : length es ≡ room
  pub odds : length os ≡ room

-- A term at the instant t with its angle worked out.
pub record WorkedFor (t : ℤ) (x : Term) (w : ReducedTerm) : Type 0 where
  pub value : value_by_parity w.odd w.a w.v ≡ term_value x.a x.b x.c t
  pub size : nat_abs w.a ≡ nat_abs x.a
  pub parity : w.odd ≤ 1
  pub offset : InRange w.v

-- What is at place k of a table.
abbrev pub placed_at : List Placed → ℕ → Placed
placed_at xs k = get_or xs k (record { a = pos 0; v = 0 })

-- The sum of the values f a v at the first n places.
unfoldable pub half_sum : (ℤ → ℕ → ℤ) → List Placed → ℕ → ℤ
half_sum f xs zero = pos 0
half_sum f xs (suc n) = half_sum f xs n +ℤ f (placed_at xs n).a (placed_at xs n).v

-- A term is put at the next free place of both tables; only the count of the one that it belongs to moves on.
pub record PutInBoth (w : ReducedTerm) (n : Counts) (es₀ os₀ es os : List Placed) (r : Counts) : Type 0 where
  pub evens : es ≡ set es₀ n.evens (record { a = w.a; v = w.v })
  pub odds : os ≡ set os₀ n.odds (record { a = w.a; v = w.v })
  pub count : r ≡ record { evens = n.evens + (1 - w.odd); odds = n.odds + w.odd }

-- a and v are within their limits, and so is the value.
pub record Small (f : ℤ → ℕ → ℤ) (a : ℤ) (v : ℕ) : Type 0 where
  pub a_below : nat_abs a < a_limit
  pub v_within : InRange v
  pub value_below : nat_abs (f a v) < a_limit

-- A table whose first n places are filled.
pub record Half (f : ℤ → ℕ → ℤ) (xs : List Placed) (n : ℕ) : Type 0 where
  pub size : length xs ≡ room
  pub few : n ≤ room
  pub each : (k : ℕ) → k < n → Small f (placed_at xs k).a (placed_at xs k).v

-- A table of n terms, with a term of value 0 past them.
pub record Closed (f : ℤ → ℕ → ℤ) (xs : List Placed) (n : ℕ) : Type 0 where
  pub filled : Half f xs (n + 1)
  pub past : half_sum f xs (n + 1) ≡ half_sum f xs n

-- The tables hold the terms' values.
pub record Parted (t : ℤ) (terms : List Term) (es os : List Placed) (n : Counts) : Type 0 where
  pub evens_closed : Closed even_value es n.evens
  pub odds_closed : Closed odd_value os n.odds
  pub sum : half_sum even_value es n.evens +ℤ half_sum odd_value os n.odds ≡ block_sum t terms
