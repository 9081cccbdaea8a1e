-- The wide rule judged block by block, from the tallies of the walk.
use Rattle.std.specs.Prelude.{◌≡◌, Bool, cond, ◌&&◌, List, [], ◌∷◌, ℕ, ◌+◌, ◌*◌, ◌-◌, ◌%◌, ◌^◌, ◌≤◌, leb, eqb, Option, Some, None, is_some}
use Rattle.units.specs.Units.{U, powers, coarse_share, coarse_base, coarse_limit, wide_tau, wide_base, wide_total}
use Rattle.limits.specs.declared.Term.{Term}
use Rattle.limits.specs.declared.Tally.{Tally}
use Rattle.limits.specs.Limits.{factor}
use Rattle.limits.specs.Allowed.{total_of, moving_total, moving_count}

-- A sum before the terms of block k: at power 0 a new coordinate begins.
unfoldable pub start : (base : ℕ) → ℕ → ℕ → ℕ
start base k c = cond (eqb (k % powers) 0) base c

-- Before the first block. It is the sum of the coordinate by the wide rule, while every block keeps to that rule.
abbrev pub no_wide : Option ℕ
no_wide = Some wide_base

-- After a block of this total, with which the coordinate's sum is this.
unfoldable pub judged : (sum total : ℕ) → Option ℕ
judged s total = cond (leb total wide_total && leb s coarse_limit) (Some s) None

-- With block k more, from the tally before its count and the one after its terms. What has failed stays.
unfoldable pub widened : ℕ → Option ℕ → Tally → Tally → Option ℕ
widened k None before after = None
widened k (Some sum) before after =
    judged (start wide_base k sum + factor k * (after.coarse - start coarse_base k before.coarse)) after.total

-- The same from the block's terms, and over the blocks from block k on.
unfoldable pub with_block : ℕ → Option ℕ → List Term → Option ℕ
with_block k None ts = None
with_block k (Some sum) ts =
    judged (start wide_base k sum + wide_tau ^ (k % powers) * (coarse_share * moving_total ts + U * moving_count ts)) (total_of ts)

unfoldable pub wide_from : ℕ → Option ℕ → List (List Term) → Bool
wide_from k w [] = is_some w
wide_from k w (ts ∷ blocks) = wide_from (k + 1) (with_block k w ts) blocks

-- What is asked of the two tallies: the sum has grown from where the block began, within its limit; and the wide sum is small.
pub record Grown (k : ℕ) (w : Option ℕ) (before after : Tally) : Type 0 where
  pub rising : start coarse_base k before.coarse ≤ after.coarse
  pub within : after.coarse ≤ coarse_limit
  pub small : (sum : ℕ) → w ≡ Some sum → sum ≤ coarse_limit
