-- `cosine::term::times_cosine` meets its contract. Assumes nothing.
use mathlib.Core.Path.{◌≡◌, ◌∙◌}
use native.Mathlib.Omega.{arith}
use Prim.Native.Nat.{◌*◌, ◌<◌}
use lib.IntN.{pos, ◌+ℤ◌}
use Rattle.units.specs.Units.{a_limit}
use Rattle.arith.proofs.Signs.{back, ok}
use Rattle.cosine.proofs.TermAngle.{biased_most, times_cosine_high, times_cosine_low, times_cosine_is}
use Rattle.cosine.proofs.term.times_cosine.Goals as goal

pub biased-m-requires : goal.biased-m-requires
biased-m-requires c = rw (back c.args.a c.ranges.a) (omega arith, omega arith)

pub overflow_mul-x : goal.overflow_mul-x
overflow_mul-x c =
    let whole : pos c.biased-m.result ≡ c.args.a +ℤ pos a_limit = rw (back c.args.a c.ranges.a) at c.biased-m.ensures in
    let top : c.biased-m.result < 2 * a_limit = omega (arith, biased_most c.args.a a_limit c.biased-m.result whole, c.requires.0) in
    omega (arith, times_cosine_high c.biased-m.result c.args.c top c.requires.1)

pub overflow_mul-x-2 : goal.overflow_mul-x-2
overflow_mul-x-2 c = omega (arith, times_cosine_low c.biased-m.result c.args.c c.requires.1)

pub overflow_add-x : goal.overflow_add-x
overflow_add-x c = omega (arith, times_cosine_low c.biased-m.result c.args.c c.requires.1)

pub overflow_add-x-2 : goal.overflow_add-x-2
overflow_add-x-2 c =
    let whole : pos c.biased-m.result ≡ c.args.a +ℤ pos a_limit = rw (back c.args.a c.ranges.a) at c.biased-m.ensures in
    let top : c.biased-m.result < 2 * a_limit = omega (arith, biased_most c.args.a a_limit c.biased-m.result whole, c.requires.0) in
    omega (
      arith,
      times_cosine_high c.biased-m.result c.args.c top c.requires.1,
      times_cosine_low c.biased-m.result c.args.c c.requires.1,
    )

pub overflow_add-x-3 : goal.overflow_add-x-3
overflow_add-x-3 c =
    let whole : pos c.biased-m.result ≡ c.args.a +ℤ pos a_limit = rw (back c.args.a c.ranges.a) at c.biased-m.ensures in
    let top : c.biased-m.result < 2 * a_limit = omega (arith, biased_most c.args.a a_limit c.biased-m.result whole, c.requires.0) in
    omega (
      arith,
      times_cosine_high c.biased-m.result c.args.c top c.requires.1,
      times_cosine_low c.biased-m.result c.args.c c.requires.1,
    )

pub overflow_add-c : goal.overflow_add-c
overflow_add-c c =
    let whole : pos c.biased-m.result ≡ c.args.a +ℤ pos a_limit = rw (back c.args.a c.ranges.a) at c.biased-m.ensures in
    let top : c.biased-m.result < 2 * a_limit = omega (arith, biased_most c.args.a a_limit c.biased-m.result whole, c.requires.0) in
    omega (arith, top)

pub difference-requires : goal.difference-requires
difference-requires c =
    let whole : pos c.biased-m.result ≡ c.args.a +ℤ pos a_limit = rw (back c.args.a c.ranges.a) at c.biased-m.ensures in
    let top : c.biased-m.result < 2 * a_limit = omega (arith, biased_most c.args.a a_limit c.biased-m.result whole, c.requires.0) in (
      omega (
        arith,
        times_cosine_high c.biased-m.result c.args.c top c.requires.1,
        times_cosine_low c.biased-m.result c.args.c c.requires.1,
      ),
      omega (arith, top),
    )

pub returns : goal.returns
returns c =
    let whole : pos c.biased-m.result ≡ c.args.a +ℤ pos a_limit = rw (back c.args.a c.ranges.a) at c.biased-m.ensures in
    back c.difference.result (ok c.difference.type_inv) ∙ c.difference.ensures
    ∙ times_cosine_is c.args.a c.args.c c.biased-m.result whole
