-- A signed number of 64 bits is what it was after it is clipped, or put into an answer. Assumes nothing.
use mathlib.Core.Path.{◌≡◌, refl, ap, ◌∙◌}
use Prim.Native.Nat.{ℕ, min, ◌≤◌, ◌<◌}
use native.Mathlib.Decide.{dec_le}
use native.Mathlib.Omega.{arith}
use lib.IntN.{ℤ, pos, negsuc}
use mir.Syntax.{w64}
use mir.Val.{SFits, to_z, of_z, bool_byte}
use Rattle.std.specs.Prelude.{Bool, true, false, Result, Ok, Err, OkIff}
use Rattle.std.specs.Result.{result_unwrap_or}
use Rattle.std.proofs.lemmas.Result.{OkIff-at_ok, OkIff-at_err}
use Rattle.arith.proofs.Signs.{back}
use Rattle.answers.specs.Answers.{greatest, clip, clipped, flag}
use Rattle.answers.specs.declared.One.{One}
use Rattle.answers.specs.declared.Moment.{Moment}
use Rattle.answers.specs.declared.Three.{Three}
use Rattle.answers.specs.declared.Standing.{Standing}

pub clip_small : (n : ℕ) → n ≤ greatest → pos n ≡ clip n
unfolding clip
clip_small n h = let e : n ≡ min n greatest = omega arith in ap pos e

pub clip_large : (n : ℕ) → greatest < n → pos greatest ≡ clip n
unfolding clip
clip_large n h = let e : greatest ≡ min n greatest = omega arith in ap pos e

-- what a number is tried as, and the greatest where it does not fit
pub clip_tried : {E : Type 0} (n : ℕ) (r : Result ℤ E) (z : ℤ) → OkIff r (SFits w64 (pos n)) (pos n)
    → z ≡ result_unwrap_or r (pos greatest) → z ≡ clip n
clip_tried {E = E} n (Ok x) z h e =
    let p = OkIff-at_ok {T = ℤ} {E = E} (Ok x) (SFits w64 (pos n)) (pos n) x h refl in
    let f : n < 9223372036854775808 = p.0.sfits in
    e ∙ p.1 ∙ clip_small n (omega arith)
clip_tried {E = E} n (Err x) z h e = e ∙ clip_large n (go (dec_le n greatest))
  where
    go : Dec (n ≤ greatest) → greatest < n
    go (yes p) = absurd (OkIff-at_err {T = ℤ} {E = E} (Err x) (SFits w64 (pos n)) (pos n) x h refl (record { sfits = omega arith }))
    go (no p) = omega arith

-- a bool as a number
pub flag_told : (b : Bool) → pos (bool_byte b) ≡ flag b
unfolding flag
flag_told true = refl
flag_told false = refl

-- a number of 64 bits stays what it is
pub clip_held : (z : ℤ) → SFits w64 z → z ≡ clipped z
unfolding clipped
clip_held (pos n) h = let k : n < 9223372036854775808 = h.sfits in clip_small n (omega arith)
clip_held (negsuc n) h = refl

abbrev stored : ℤ → ℤ
stored z = to_z w64 (of_z w64 z)

abbrev one : ℤ → One
one x = record { refusal = 0; figure = pos 0; value = x }

abbrev three : ℤ → ℤ → ℤ → Three
three x y z = record { refusal = 0; figure = pos 0; first = x; second = y; third = z }

abbrev moment : ℤ → ℤ → ℤ → ℤ → Moment
moment x y z m = record { refusal = 0; figure = pos 0; year = x; month = y; day = z; ms = m }

pub one_held : (x : ℤ) → SFits w64 x → one (stored x) ≡ one x
one_held x p = rw (back x p)

pub three_held : (x y z : ℤ) → SFits w64 x → SFits w64 y → SFits w64 z → three (stored x) (stored y) (stored z) ≡ three x y z
three_held x y z p q r = rw (back x p, back y q, back z r)

pub moment_held : (x y z m : ℤ) → SFits w64 x → SFits w64 y → SFits w64 z → SFits w64 m
    → moment (stored x) (stored y) (stored z) (stored m) ≡ moment x y z m
moment_held x y z m p q r s = rw (back x p, back y q, back z r, back m s)

-- What is written, and whether it is accepted.
abbrev standing : ℕ → ℤ → ℤ → ℤ → Standing
standing r f n a = record { refusal = r; figure = f; length = n; accepted = a }

pub standing_held : (w : One) (a : ℤ) → SFits w64 w.figure → SFits w64 w.value → SFits w64 a
    → standing w.refusal (stored w.figure) (stored w.value) (stored a) ≡ standing w.refusal w.figure w.value a
standing_held w a p q r = rw (back w.figure p, back w.value q, back a r)
