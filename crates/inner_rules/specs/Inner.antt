-- What a number past its range counts as, where tests call inner rules, and that range; a vector and a sight as numbers.
use Rattle.std.specs.Prelude.{cond, ℕ, zero, suc, ◌-◌, ◌^◌, ℤ, pos, nat_abs, leb}
use Rattle.units.specs.Units.{a_limit, b_limit, c_limit}
use Rattle.rectangular.specs.declared.Vector.{Vector}
use Rattle.rectangular.specs.declared.Frame.{Frame}
use Rattle.rectangular.specs.declared.Frame.TheVariants.{Theory, Catalogues}
use Rattle.std.specs.Prelude.{None, Option, Some}
use Rattle.rectangular.specs.declared.View.{View}
use Rattle.inner_rules.specs.declared.VectorFigures.{VectorFigures}
use Rattle.inner_rules.specs.declared.SightFigures.{SightFigures}

-- The number itself, or 0 where its magnitude is past the last allowed.
unfoldable pub held : (last : ℕ) → ℤ → ℤ
held last x = cond (leb (nat_abs x) last) x (pos 0)

-- The vector of three numbers, each so held.
unfoldable pub held_vector : (last : ℕ) (x y z : ℤ) → Vector
held_vector last x y z = record { x = held last x; y = held last y; z = held last z }

-- The greatest component of a vector, and the greatest length, over 350 AU in parts.
abbrev pub reach : ℕ
reach = 2 ^ 45

-- The greatest component that is turned, over 87 AU.
abbrev pub turn_reach : ℕ
turn_reach = 2 ^ 43

-- The greatest |a|, b and |c| of a term.
abbrev pub a_last : ℕ
a_last = a_limit - 1

abbrev pub b_last : ℕ
b_last = b_limit - 1

abbrev pub c_last : ℕ
c_last = c_limit - 1

-- The frame that a number stands for: the theory's for 0.
unfoldable pub frame_of : ℕ → Frame
frame_of zero = Theory
frame_of (suc n) = Catalogues

-- A vector as its numbers.
unfoldable pub vector_figures : Vector → VectorFigures
vector_figures v = record { x = v.x; y = v.y; z = v.z }

-- A usable sight as 1 and its numbers; an unusable one is nothing but 0.
unfoldable pub shown : Option View → SightFigures
shown (Some v) = record {
  usable = 1;
  earth_x = v.earth.x;
  earth_y = v.earth.y;
  earth_z = v.earth.z;
  x = v.vector.x;
  y = v.vector.y;
  z = v.vector.z;
  distance = v.distance;
}
shown None = record {
  usable = 0;
  earth_x = pos 0;
  earth_y = pos 0;
  earth_z = pos 0;
  x = pos 0;
  y = pos 0;
  z = pos 0;
  distance = 0;
}
