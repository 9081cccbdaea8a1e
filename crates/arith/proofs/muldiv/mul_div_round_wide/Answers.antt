-- `arith::muldiv::mul_div_round_wide` meets its contract. Assumes nothing.
use mathlib.Core.Path.{◌≡◌, ap, ◌∙◌}
use mathlib.Core.Bool.{false}
use Prim.Native.Nat.{ℕ, ◌+◌, ◌-◌, ◌*◌, ◌/◌, ◌%◌, ◌<◌, ◌^◌}
use native.Mathlib.Omega.{arith}
use native.Mathlib.Nat.{mod-lt, div-le_self, div-add-mod'}
use mir.Syntax.{w64}
use mir.ValLaws.{to_z_pos}
use Rattle.integers.specs.Signs.{near}
use Rattle.integers.proofs.Division.{near_le}
use Rattle.arith.proofs.Signs.{ok}
use Rattle.arith.proofs.Long.{le_left}
use Rattle.arith.proofs.Split.{split_below, rounded_two_steps}
use Rattle.arith.proofs.muldiv.mul_div_round_wide.Goals as goal

-- the floor by s, split there, and its rounding by t
module _ (a x s t : ℕ) (hs : 0 < s) (ht : 0 < t) (h : a * x < s * (2 ^ 63 - 1)) where
  abbrev first : ℕ
  first = x / s * a + x % s * a / s

  small : first < 2 ^ 63 - 1
  small = split_below x a s (2 ^ 63 - 1) hs (let e : x * a ≡ a * x = omega arith in rw e h)

  word : first < 2 ^ 64
  word = let l = small in omega arith

  next : first / t + 1 < 2 ^ 64
  next = let l = small in let g = div-le_self first t in omega arith

  module _ (z : ℕ) (e : z ≡ near false (first / t * t + first % t) t) where
    whole : z ≡ near false first t
    whole = e ∙ ap (λ (n : ℕ). near false n t) (div-add-mod' first t)

    half : z < 2 ^ 63
    half = let f = whole in let g = near_le false first t ht in let l = small in omega arith

pub overflow_mul-e : goal.overflow_mul-e
overflow_mul-e c = let a = c.args in record { fits = le_left _ _ (word a.a a.x a.s a.t c.requires.0 c.requires.1 c.requires.4) }

pub overflow_add-e : goal.overflow_add-e
overflow_add-e c = let a = c.args in record { fits = word a.a a.x a.s a.t c.requires.0 c.requires.1 c.requires.4 }

pub nearest-requires : goal.nearest-requires
nearest-requires c =
    let a = c.args in
    (mod-lt (first a.a a.x a.s a.t c.requires.0 c.requires.1 c.requires.4) c.requires.1, next a.a a.x a.s a.t c.requires.0 c.requires.1 c.requires.4)

pub overflow_cast-result : goal.overflow_cast-result
overflow_cast-result c = let a = c.args in ok (half a.a a.x a.s a.t c.requires.0 c.requires.1 c.requires.4 c.nearest.result c.nearest.ensures)

pub returns : goal.returns
returns c =
    let a = c.args in
    let z = c.nearest.result in
    let r = c.requires in
    to_z_pos w64 z (half a.a a.x a.s a.t r.0 r.1 r.4 z c.nearest.ensures)
    ∙ rounded_two_steps a.a a.x a.s a.t z r.0 r.1 r.2 (whole a.a a.x a.s a.t r.0 r.1 r.4 z c.nearest.ensures)
