-- P2: what an accepted series answers for L, B and R is no farther than 10^-6 from its exact sums. Assumes nothing.
use mathlib.Core.Path.{◌≡◌, subst}
use mathlib.Core.Bool.{true}
use mathlib.Core.List.{List}
use Prim.Native.Nat.{ℕ, ◌≤◌}
use native.Mathlib.Omega.{arith}
use lib.IntN.{ℤ, nat_abs}
use Rattle.units.specs.Units.{t_limit}
use Rattle.units.specs.declared.Instant.{Instant}
use Rattle.units.specs.declared.Coordinates.{Coordinates}
use Rattle.limits.specs.declared.Term.{Term}
use Rattle.limits.specs.Allowed.{Allowed}
use Rattle.limits.specs.Wide.{reaches}
use Rattle.packed.specs.Series.{parse, accepted}
use Rattle.std.specs.Prelude.{Ok}
use Rattle.series.specs.Sums.{coordinates_answer, coordinates, longitude_blocks, latitude_blocks, radius_blocks}
use Rattle.series.specs.Exact.{exact_longitude, exact_latitude, exact_radius, NearExact}
use Rattle.series.proofs.Reach.{in_reach}
use Rattle.series.proofs.Accepted.{accepted_is}
use Rattle.series.proofs.Answered.{answered}
use Rattle.series.proofs.Distance.{distance}

-- Of a series within the limits, at an instant at which it may be asked.
pub coordinates_near : (t : ℤ) (bs : List (List Term)) → Allowed bs → nat_abs t ≤ t_limit → reaches bs t ≡ true → NearExact (coordinates t bs) t bs
unfolding coordinates exact_longitude exact_latitude exact_radius longitude_blocks latitude_blocks radius_blocks
coordinates_near t bs a h e =
    let r = in_reach t bs a h e in
    record { longitude = distance t bs r 0 (omega arith); latitude = distance t bs r 1 (omega arith); radius = distance t bs r 2 (omega arith) }

-- Whatever bytes and whatever instant the call is given: where it answers coordinates, the bytes are a series, and the coordinates
-- are near its exact sums.
pub P2 : (bytes : List ℕ) (t : Instant) (c : Coordinates) → coordinates_answer bytes t ≡ Ok c
    → (blocks : List (List Term)) × (parse bytes ≡ accepted blocks) × NearExact c t.ms blocks
P2 bytes t c e =
    let a = answered bytes t c e in (
      a.blocks,
      a.parsed,
      subst (λ x. NearExact x t.ms a.blocks) a.value
          (coordinates_near t.ms a.blocks (accepted_is bytes a.blocks a.parsed) a.in_time a.reached),
    )
