-- What the quick way to read a term has read. Held by the code, no part of the rules.
use Rattle.std.specs.Prelude.{◌≡◌, List, ℕ, zero, suc, ◌+◌, ◌*◌, ◌-◌, ◌^◌, ◌≤◌, drop}
use Rattle.packed_numbers.specs.Numbers.{group, got, groups_from, number}
use Rattle.packed_numbers.specs.Machine.Answers.{at_offset}

-- A number of the usual length has at most so many groups.
abbrev pub usual_groups : ℕ
usual_groups = 8

-- What the top bits of k groups come to.
unfoldable pub tops : ℕ → ℕ
tops zero = 0
tops (suc k) = tops k + group * group ^ k

-- The number at an offset begins with k groups that are not the last; their bytes come to sum, with the top bits.
pub record Begun (s : List ℕ) (at k sum : ℕ) : Type 0 where
  pub small : sum ≤ 3 * group ^ k
  pub above : tops k ≤ sum
  pub begun : at_offset number at s ≡ groups_from k (sum - tops k) (at + k) (drop (at + k) s)

-- The number at an offset is v, is of the usual length, and ends before to.
pub record Usual (s : List ℕ) (at v to : ℕ) : Type 0 where
  pub near : to ≤ at + usual_groups
  pub read : at_offset number at s ≡ got v to (drop to s)

-- The numbers a, b, c stand at an offset one after the other, and the last ends before to.
pub record UsualTerm (s : List ℕ) (at a b c to : ℕ) : Type 0 where
  pub at_b : ℕ
  pub at_c : ℕ
  pub read_a : at_offset number at s ≡ got a at_b (drop at_b s)
  pub read_b : at_offset number at_b s ≡ got b at_c (drop at_c s)
  pub read_c : at_offset number at_c s ≡ got c to (drop to s)
