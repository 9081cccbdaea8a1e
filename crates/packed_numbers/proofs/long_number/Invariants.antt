-- `long_number` meets its contract: what is left of the bytes, after k groups, gives what the whole gives. Assumes nothing.
use mathlib.Core.Path.{◌≡◌}
use Prim.Native.Nat.{◌^◌, ◌≤◌, ◌<◌}
use lib.ListN.{drop}
use Rattle.packed_numbers.specs.Numbers.{group, groups_from}
use Rattle.packed_numbers.proofs.long_number.Given as goal

abbrev pub invariant-loop-i : goal.invariant-loop-i
invariant-loop-i l = (l.scale ≡ group ^ l.k) × (l.k ≤ 8) × (l.value < group ^ l.k) × (0 < l.k)
    × (groups_from 1 l.low l.from (drop l.from l.s) ≡ groups_from l.k l.value l.i (drop l.i l.s))
