-- The working coordinates of an accepted series are near its exact sums at every instant at which it may be asked. Assumes nothing.
use mathlib.Core.Path.{◌≡◌}
use mathlib.Core.Bool.{true}
use mathlib.Core.List.{List}
use Prim.Native.Nat.{ℕ, ◌≤◌}
use lib.IntN.{pos, nat_abs}
use Rattle.integers.specs.Order.{◌≼◌}
use Rattle.units.specs.Units.{t_limit}
use Rattle.units.specs.declared.Instant.{Instant}
use Rattle.limits.specs.declared.Term.{Term}
use Rattle.limits.specs.Wide.{reaches}
use Rattle.packed.specs.Series.{parse, accepted}
use Rattle.series.specs.Sums.{coordinates}
use Rattle.series.proofs.Accepted.{accepted_is}
use Rattle.series.proofs.Promise.{coordinates_near}
use Rattle.series.proofs.Sizes.{coordinates_small}
use Rattle.separation.specs.Machine.Near.{tolerance, NearCoordinates}
use Rattle.separation.proofs.Apart.{apart_wider}
use Rattle.sunlist.specs.Demand.{exact_coordinates}

wider : pos 100000 ≼ pos tolerance
wider = record { le = tt }

pub near : (bytes : List ℕ) (blocks : List (List Term)) (t : Instant) → parse bytes ≡ accepted blocks → nat_abs t.ms ≤ t_limit
    → reaches blocks t.ms ≡ true
    → NearCoordinates (coordinates t.ms blocks) (exact_coordinates t blocks)
unfolding exact_coordinates
near bytes blocks t e h r =
    let a = accepted_is bytes blocks e in
    let n = coordinates_near t.ms blocks a h r in
    let s = coordinates_small t.ms blocks a h r in
    record {
      longitude_limit = s.longitude;
      latitude_limit = s.latitude;
      longitude = apart_wider _ _ _ _ wider n.longitude;
      latitude = apart_wider _ _ _ _ wider n.latitude;
      radius = apart_wider _ _ _ _ wider n.radius;
    }
