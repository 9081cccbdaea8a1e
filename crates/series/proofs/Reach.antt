-- What the sums need of a series at an instant at which it may be asked: a greatest |tau| and a greatest total of a block to count with. Within two
-- millennia every series that is accepted has them, beyond them one that is good for the wide range. Assumes nothing.
use mathlib.Core.Path.{◌≡◌}
use mathlib.Core.Bool.{true}
use mathlib.Core.List.{List, [], ◌∷◌}
use Prim.Native.Nat.{ℕ, ◌+◌, ◌*◌, ◌≤◌, ◌<◌}
use native.Mathlib.Omega.{arith}
use borrow.Author.Tests.{leb-true}
use lib.Dec.{leb}
use lib.IntN.{ℤ, nat_abs}
use lib.ListN.{length}
use Rattle.integers.proofs.Tests.{both, by_cases}
use Rattle.units.specs.Units.{U, millennium, t_limit, near_tau, near_limit, near, total_limit, coarse_share, coarse_base, coarse_limit}
use Rattle.units.specs.Units.{wide_tau, wide_total, wide_base}
use Rattle.units.proofs.Limit.{size_within}
use Rattle.limits.specs.declared.Term.{Term}
use Rattle.limits.specs.Allowed.{Allowed, total_of, coarseness_by, coordinate}
use Rattle.limits.specs.Wide.{totals_within, good_for_wide, reaches}
use Rattle.limits.proofs.WideSums.{good_totals, good_coarse}
use Rattle.limits.proofs.Reach.{far_good}
use Rattle.series.proofs.Ladder.{ladder}
use Rattle.series.proofs.Accepted.{BlocksIn, TotalsIn, in_none, in_more, allowed_inside}

-- `five` is about the running sum before power 0, `six` about the whole one; `coarse` leaves room for the five roundings of V t/T.
pub record InReach (t : ℤ) (bs : List (List Term)) : Type 0 where
  pub most_tau : ℕ
  pub most_total : ℕ
  pub in_limit : nat_abs t ≤ t_limit
  pub in_time : nat_abs t ≤ most_tau * millennium
  pub inside : BlocksIn bs
  pub totals : TotalsIn most_total bs
  pub coarse : (q : ℕ) → q < 3 → coarseness_by most_tau coarse_share 0 (coordinate q bs) + U * ladder most_tau 5 ≤ coarse_limit
  pub five : most_total * ladder most_tau 5 ≤ 341 * wide_total
  pub six : most_total * ladder most_tau 6 ≤ 1365 * wide_total

-- Within two millennia: 31 roundings, and 31 or 63 totals.
near_reach : (t : ℤ) (bs : List (List Term)) → Allowed bs → nat_abs t ≤ near_limit → InReach t bs
unfolding ladder
near_reach t bs a h = record {
  most_tau = near_tau;
  most_total = total_limit;
  in_limit = omega arith;
  in_time = h;
  inside = allowed_inside bs a;
  totals = record { at = λ (k : ℕ) (l : k < length bs). ((allowed_inside bs a).at k l).total };
  coarse = λ (q : ℕ) (l : q < 3). room _ (a.coarse q l);
  five = omega arith;
  six = omega arith;
}
  where
    room : (c : ℕ) → c + coarse_base ≤ coarse_limit → c + U * 31 ≤ coarse_limit
    room c h = omega arith

-- One test of all totals, and each of them.
each_total : (most : ℕ) (bs : List (List Term)) → totals_within most bs ≡ true → TotalsIn most bs
unfolding totals_within
each_total most [] e = in_none
each_total most (b ∷ bs) e = let h = both (leb (total_of b) most) (totals_within most bs) e in in_more b bs (leb-true _ _ h.0) (each_total most bs h.1)

-- A series that is good, up to four millennia: 341 roundings, and 341 or 1365 totals.
good_reach : (t : ℤ) (bs : List (List Term)) → Allowed bs → nat_abs t ≤ t_limit → good_for_wide bs ≡ true → InReach t bs
unfolding ladder
good_reach t bs a h e = record {
  most_tau = wide_tau;
  most_total = wide_total;
  in_limit = h;
  in_time = h;
  inside = allowed_inside bs a;
  totals = each_total wide_total bs (good_totals bs e);
  coarse = λ (q : ℕ) (l : q < 3). room _ (good_coarse bs e q l);
  five = omega arith;
  six = omega arith;
}
  where
    room : (c : ℕ) → c + wide_base ≤ coarse_limit → c + U * 341 ≤ coarse_limit
    room c h = omega arith

pub in_reach : (t : ℤ) (bs : List (List Term)) → Allowed bs → nat_abs t ≤ t_limit → reaches bs t ≡ true → InReach t bs
in_reach t bs a h e =
    by_cases (near t) (λ n. near_reach t bs a (size_within near_limit t n)) (λ f. good_reach t bs a h (far_good bs t f e))
