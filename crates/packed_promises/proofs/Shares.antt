-- A packed series that was accepted with the former share of the coarseness rule is accepted now, with the same blocks. Assumes nothing.
use mathlib.Core.Path.{◌≡◌, ap, ◌∙◌}
use mathlib.Core.List.{List}
use Prim.Native.Nat.{ℕ, ◌≤◌}
use native.Mathlib.Omega.{arith}
use Rattle.units.specs.Units.{coarse_share}
use Rattle.limits.specs.declared.Term.{Term}
use Rattle.limits.specs.Allowed.{AllowedBy, Allowed}
use Rattle.limits.proofs.Shares.{share_less}
use Rattle.packed_numbers.proofs.Shortest.{AllBytes}
use Rattle.packed.specs.Series.{accepted, parse}
use Rattle.packed_promises.specs.Shares.{SeriesBy, former_share}
use Rattle.packed_promises.proofs.Theorems.{accepted_allowed, pack_parse, parse_pack}

-- With today's share `SeriesBy` is acceptance: what is accepted is a series by it, and what is one is accepted.
pub accepted_by_now : (bytes : List ℕ) (blocks : List (List Term)) → AllBytes bytes → parse bytes ≡ accepted blocks → SeriesBy coarse_share bytes blocks
accepted_by_now bytes blocks b e = record { form = parse_pack bytes blocks b e; allowed = accepted_allowed bytes blocks e }

pub accepted_of : (bytes : List ℕ) (blocks : List (List Term)) → SeriesBy coarse_share bytes blocks → parse bytes ≡ accepted blocks
accepted_of bytes blocks s = ap parse s.form ∙ pack_parse blocks s.allowed

-- Today's share is not greater than the former one, so a series that was within the limits is within them now.
not_greater : coarse_share ≤ former_share
not_greater = omega arith

pub still_allowed : (blocks : List (List Term)) → AllowedBy former_share blocks → Allowed blocks
still_allowed blocks a = share_less coarse_share former_share not_greater blocks a

-- With the former share the same was proved of what was accepted then. So it is accepted now, byte for byte, with the same blocks.
pub still_accepted : (bytes : List ℕ) (blocks : List (List Term)) → SeriesBy former_share bytes blocks → parse bytes ≡ accepted blocks
still_accepted bytes blocks s = accepted_of bytes blocks (record { form = s.form; allowed = still_allowed blocks s.allowed })
