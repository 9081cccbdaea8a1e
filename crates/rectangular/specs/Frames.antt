-- The frame of a place (RULES, "The frame of the catalogues"): that of the theory, or that of the catalogues, into which a heliocentric vector is turned.
use Rattle.std.specs.Prelude.{ℕ, ℤ, pos, neg_ℤ, ◌+ℤ◌, ◌*ℤ◌}
use Rattle.integers.specs.Division.{rounded}
use Rattle.rectangular.specs.declared.Vector.{Vector}
use Rattle.rectangular.specs.declared.Frame.{Frame}
use Rattle.rectangular.specs.declared.Frame.TheVariants.{Theory, Catalogues}

-- The small angles of the turn about the axes of x, y and z, in 10^-12 radian.
abbrev pub about_x : ℕ
about_x = 188593

abbrev pub about_y : ℕ
about_y = 190889

abbrev pub about_z : ℕ
about_z = 440291

abbrev pub frame_unit : ℕ
frame_unit = 1000000000000

-- A constant times a component, rounded to the part. A minus belongs to the constant: the product is rounded with its sign, a half going up as always.
unfoldable pub share : ℤ → ℤ → ℤ
share m v = rounded (m *ℤ v) frame_unit

abbrev pub minus : ℕ → ℤ
minus m = neg_ℤ (pos m)

-- The components of the turned vector.
unfoldable pub turned : Vector → Vector
turned v = record {
  x = v.x +ℤ share (pos about_z) v.y +ℤ share (minus about_y) v.z;
  y = share (minus about_z) v.x +ℤ v.y +ℤ share (pos about_x) v.z;
  z = share (pos about_y) v.x +ℤ share (minus about_x) v.y +ℤ v.z;
}

-- A heliocentric vector in a frame.
unfoldable pub in_frame : Frame → Vector → Vector
in_frame Theory v = v
in_frame Catalogues v = turned v
