-- `arith::muldiv::mul_div` meets its contract: after each digit, (q, r) is the quotient and the rest of the digits so far, times b. Assumes nothing.
use mathlib.Core.Path.{◌≡◌, ◌∙◌}
use Prim.Native.Nat.{◌+◌, ◌*◌, ◌/◌}
use native.Mathlib.Omega.{arith}
use Rattle.arith.specs.Machine.Digits.{base}
use Rattle.arith.proofs.Long.{divided, quotient, next_is, next_fits, first_fits, top_digit}
use Rattle.arith.proofs.muldiv.mul_div.Goals as goal

pub step-s3-requires : goal.step-s3-requires
step-s3-requires c = (c.requires.0, c.requires.1, c.requires.2, top_digit c.args.a c.ranges.a.fits, first_fits c.args.a c.args.b c.args.d c.requires.3)

pub step-s2-requires : goal.step-s2-requires
step-s2-requires c =
    let one : c.step-s3.result.q * c.args.d + c.step-s3.result.r ≡ c.args.a / (base * base * base) * c.args.b =
    (divided _ _ _ _ c.requires.0 c.step-s3.ensures).whole ∙ omega arith in
    ((divided _ _ _ _ c.requires.0 c.step-s3.ensures).rest, c.requires.1, c.requires.2, omega arith, next_fits _ _ _ _ _ _ (one) (omega arith) c.requires.3)

pub step-s1-requires : goal.step-s1-requires
step-s1-requires c =
    let one : c.step-s3.result.q * c.args.d + c.step-s3.result.r ≡ c.args.a / (base * base * base) * c.args.b =
    (divided _ _ _ _ c.requires.0 c.step-s3.ensures).whole ∙ omega arith in
    let two : c.step-s2.result.q * c.args.d + c.step-s2.result.r ≡ c.args.a / (base * base) * c.args.b =
    next_is _ _ _ _ _ _ (one) (divided _ _ _ _ c.requires.0 c.step-s2.ensures).whole (omega arith) in (
      (divided _ _ _ _ c.requires.0 c.step-s2.ensures).rest,
      c.requires.1,
      c.requires.2,
      omega arith,
      next_fits _ _ _ _ _ _ (two) (omega arith) c.requires.3,
    )

pub step-requires : goal.step-requires
step-requires c =
    let one : c.step-s3.result.q * c.args.d + c.step-s3.result.r ≡ c.args.a / (base * base * base) * c.args.b =
    (divided _ _ _ _ c.requires.0 c.step-s3.ensures).whole ∙ omega arith in
    let two : c.step-s2.result.q * c.args.d + c.step-s2.result.r ≡ c.args.a / (base * base) * c.args.b =
    next_is _ _ _ _ _ _ (one) (divided _ _ _ _ c.requires.0 c.step-s2.ensures).whole (omega arith) in
    let three : c.step-s1.result.q * c.args.d + c.step-s1.result.r ≡ c.args.a / base * c.args.b =
    next_is _ _ _ _ _ _ (two) (divided _ _ _ _ c.requires.0 c.step-s1.ensures).whole (omega arith) in (
      (divided _ _ _ _ c.requires.0 c.step-s1.ensures).rest,
      c.requires.1,
      c.requires.2,
      omega arith,
      next_fits _ _ _ _ _ _ (three) (omega arith) c.requires.3,
    )

pub returns : goal.returns
returns c =
    let one : c.step-s3.result.q * c.args.d + c.step-s3.result.r ≡ c.args.a / (base * base * base) * c.args.b =
    (divided _ _ _ _ c.requires.0 c.step-s3.ensures).whole ∙ omega arith in
    let two : c.step-s2.result.q * c.args.d + c.step-s2.result.r ≡ c.args.a / (base * base) * c.args.b =
    next_is _ _ _ _ _ _ (one) (divided _ _ _ _ c.requires.0 c.step-s2.ensures).whole (omega arith) in
    let three : c.step-s1.result.q * c.args.d + c.step-s1.result.r ≡ c.args.a / base * c.args.b =
    next_is _ _ _ _ _ _ (two) (divided _ _ _ _ c.requires.0 c.step-s1.ensures).whole (omega arith) in
    let l = divided _ _ _ _ c.requires.0 c.step.ensures in
    quotient _ _ _ _ (record { rest = l.rest; whole = next_is _ _ _ _ _ _ (three) l.whole (omega arith) })
