-- `cosine::term::Prepared::angle` meets its contract. Assumes nothing.
use mathlib.Core.Path.{◌≡◌}
use native.Mathlib.Omega.{arith}
use Prim.Native.Nat.{◌+◌, ◌<◌}
use lib.IntN.{pos, ◌+ℤ◌}
use Rattle.units.specs.Units.{c_limit}
use Rattle.arith.proofs.Signs.{back}
use Rattle.cosine.specs.Machine.Prepared.{c_bias}
use Rattle.cosine.proofs.TermAngle.{biased_most, ranges_of, angle_is}
use Rattle.cosine.proofs.term.Prepared.angle.Goals as goal

pub biased-d-requires : goal.biased-d-requires
biased-d-requires c = rw (back c.args.c c.ranges.c) (omega arith, omega arith)

pub combined-h-requires : goal.combined-h-requires
combined-h-requires c =
    let raised : pos c.biased-d.result ≡ c.args.c +ℤ pos c_bias = rw (back c.args.c c.ranges.c) at c.biased-d.ensures in
    let top : c.biased-d.result < c_limit + c_bias = omega (arith, biased_most c.args.c c_bias c.biased-d.result (raised), c.requires.1) in
    let h = ranges_of c.args.self.ready in
    (omega arith, omega (arith, top), h.h0_in, h.h1_in, h.h2_in)

pub combined-l-requires : goal.combined-l-requires
combined-l-requires c =
    let raised : pos c.biased-d.result ≡ c.args.c +ℤ pos c_bias = rw (back c.args.c c.ranges.c) at c.biased-d.ensures in
    let top : c.biased-d.result < c_limit + c_bias = omega (arith, biased_most c.args.c c_bias c.biased-d.result (raised), c.requires.1) in
    let h = ranges_of c.args.self.ready in
    (omega arith, omega (arith, top), omega arith, omega arith, omega arith)

pub combined-r-requires : goal.combined-r-requires
combined-r-requires c =
    let raised : pos c.biased-d.result ≡ c.args.c +ℤ pos c_bias = rw (back c.args.c c.ranges.c) at c.biased-d.ensures in
    let top : c.biased-d.result < c_limit + c_bias = omega (arith, biased_most c.args.c c_bias c.biased-d.result (raised), c.requires.1) in
    let h = ranges_of c.args.self.ready in
    (omega arith, omega (arith, top), omega arith, omega arith, omega arith)

pub returns : goal.returns
returns c =
    let raised : pos c.biased-d.result ≡ c.args.c +ℤ pos c_bias = rw (back c.args.c c.ranges.c) at c.biased-d.ensures in (
      angle_is c.args.self.t c.args.self.place_0 c.args.self.place_1 c.args.self.rest c.args.self.ready c.args.b c.args.c
          c.biased-d.result c.combined-h.result c.combined-l.result c.combined-r.result
          (raised) c.combined-h.ensures.0 c.combined-l.ensures.0 c.combined-r.ensures.0,
      omega (arith, c.combined-l.ensures.1, c.combined-r.ensures.1, c.requires.0),
    )
