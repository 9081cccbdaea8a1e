-- RULES, "Series, as text and packed": the limits of a series, each once. They are judged over the part so far, so each rule is a test
-- of what the tally of that part is with one count or one term more.
use Rattle.std.specs.Prelude.{Bool, cond, ◌&&◌, List, [], ◌∷◌, ℕ, ◌+◌, ◌*◌, ◌%◌, ◌^◌, leb, ltb, eqb, ℤ, nat_abs, length, Result, Ok, Err}
use Rattle.units.specs.Units.{U, coarse_tau, a_limit, b_limit, c_limit, block_limit, series_limit, total_limit, powers}
use Rattle.units.specs.Units.{coarse_share, coarse_base, coarse_limit}
use Rattle.units.specs.Refusals.{over_limit, total_over_limit, too_coarse, fault_number}
use Rattle.units.specs.declared.Fault.{Fault}
use Rattle.limits.specs.declared.Term.{Term}
use Rattle.limits.specs.declared.Tally.{Tally}

-- The factor of block number k, counted from 0: coarse_tau to the block's power, which is k mod 6.
unfoldable pub factor : ℕ → ℕ
factor k = coarse_tau ^ (k % powers)

-- A term counts as constant where b and c are both 0.
unfoldable pub constant : ℕ → ℤ → Bool
constant b c = eqb b 0 && eqb (nat_abs c) 0

-- What a term adds to the coarseness sum, in a block with factor f.
unfoldable pub weight : ℕ → ℤ → ℕ → ℤ → ℕ
weight f a b c = cond (constant b c) 0 (f * (coarse_share * nat_abs a + U))

-- Before the first count.
abbrev pub no_tally : Tally
no_tally = record { terms = 0; total = 0; coarse = coarse_base }

-- With the count n of block k: a new block, and at power 0 a new coordinate.
unfoldable pub opened : ℕ → ℕ → Tally → Tally
opened k n s =
    record {
      terms = s.terms + n;
      total = 0;
      coarse = cond (eqb (k % powers) 0) coarse_base s.coarse;
    }

-- With one term more, in a block with factor f.
unfoldable pub added : ℕ → Tally → Term → Tally
added f s t =
    record {
      terms = s.terms;
      total = s.total + nat_abs t.a;
      coarse = s.coarse + weight f t.a t.b t.c;
    }

-- With the terms of a block, one after the other, and with the whole block k.
unfoldable pub summed : ℕ → Tally → List Term → Tally
summed f s [] = s
summed f s (t ∷ ts) = summed f (added f s t) ts

unfoldable pub after_block : ℕ → Tally → List Term → Tally
after_block k s ts = summed (factor k) (opened k (length ts) s) ts

-- A count may come.
unfoldable pub count_fits : Tally → ℕ → Bool
count_fits s n = leb n block_limit && leb (s.terms + n) series_limit

-- The numbers of a term are within their limits.
unfoldable pub a_fits : ℤ → Bool
a_fits a = ltb (nat_abs a) a_limit

unfoldable pub b_fits : ℕ → Bool
b_fits b = ltb b b_limit

unfoldable pub c_fits : ℤ → Bool
c_fits c = ltb (nat_abs c) c_limit

-- With a the block's total is within its limit.
unfoldable pub total_fits : Tally → ℤ → Bool
total_fits s a = leb (s.total + nat_abs a) total_limit

-- With this term the coordinate is not too coarse.
unfoldable pub coarse_fits : ℕ → Tally → ℤ → ℕ → ℤ → Bool
coarse_fits f s a b c = leb (s.coarse + weight f a b c) coarse_limit

-- All of that: a term may come.
unfoldable pub term_may_come : ℕ → Tally → Term → Bool
term_may_come f s t =
    a_fits t.a && (total_fits s t.a && (b_fits t.b && (c_fits t.c && coarse_fits f s t.a t.b t.c)))

-- The number of the refusal of a term that has come whole, or 0: for its numbers, then for the total, then for the coarseness.
unfoldable pub numbers_fit : Term → Bool
numbers_fit t = a_fits t.a && (b_fits t.b && c_fits t.c)

unfoldable pub term_refusal : ℕ → Tally → Term → ℕ
term_refusal f s t =
    cond (numbers_fit t)
    (cond (total_fits s t.a) (cond (coarse_fits f s t.a t.b t.c) 0 too_coarse) total_over_limit)
    over_limit

-- The number of what a judgement of the code answers: that of the fault, or 0.
abbrev pub refused_number : Result (Unit {0}) Fault → ℕ
refused_number (Ok u) = 0
refused_number (Err fault) = fault_number fault
