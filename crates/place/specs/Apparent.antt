-- From a geocentric vector to the apparent place (RULES, "Places"): the light time, nutation and obliquity, right ascension and declination.
use Rattle.std.specs.Prelude.{ℕ, ◌*◌, ℤ, pos, ◌+ℤ◌, ◌-ℤ◌, ◌*ℤ◌}
use Rattle.integers.specs.Division.{rounded}
use Rattle.units.specs.Units.{U, parts}
use Rattle.units.specs.declared.Instant.{Instant}
use Rattle.cosine.specs.Cosine.{cosine, sine}
use Rattle.rectangular.specs.declared.Vector.{Vector}
use Rattle.rectangular.specs.Vectors.{length}
use Rattle.rectangular.specs.Rectangular.{rectangular}
use Rattle.direction.specs.Direction.{steps_angle, direction, latitude}
use Rattle.nutation.specs.Nutation.{nutation_angle, obliquity_angle}
use Rattle.place.specs.declared.Apparent.{Apparent}
use Rattle.place.specs.declared.Equatorial.{Equatorial}

-- The nanoseconds that light takes for an AU, and the light time of D parts, in milliseconds.
abbrev pub light_ns : ℕ
light_ns = 499004781984

abbrev pub ns_per_ms : ℕ
ns_per_ms = 1000000

unfoldable pub light_time : ℕ → ℤ
light_time d = rounded (pos light_ns *ℤ pos d) (ns_per_ms * parts)

-- The instant at which both bodies are taken again.
unfoldable pub earlier : Instant → ℕ → Instant
earlier t d = record { ms = t.ms -ℤ light_time d }

-- The direction and the latitude of a vector as angles, the nutation's angle added to the first; and from them, with its own length, a vector again.
unfoldable pub rebuilt : (nutation : ℤ) → Vector → Vector
rebuilt nutation v =
    rectangular (pos (length v)) (steps_angle (latitude v.x v.y v.z)) (steps_angle (pos (direction v.x v.y)) +ℤ nutation)

-- An ecliptic vector turned about X to the true equator.
unfoldable pub to_equator : (obliquity : ℤ) → Vector → Vector
to_equator e v = record {
  x = v.x;
  y = rounded (v.y *ℤ cosine e) U -ℤ rounded (v.z *ℤ sine e) U;
  z = rounded (v.y *ℤ sine e) U +ℤ rounded (v.z *ℤ cosine e) U;
}

-- The apparent equatorial X, Y, Z of a geocentric vector, with the angles of the nutation in longitude and of the true obliquity, all at the asked t.
unfoldable pub apparent : Instant → Vector → Apparent
apparent t v = record {
  vector = to_equator (obliquity_angle t.ms) (rebuilt (nutation_angle t.ms) v);
  nutation = nutation_angle t.ms;
  obliquity = obliquity_angle t.ms;
}

-- Right ascension and declination of an equatorial vector, with the distance that is answered beside them.
unfoldable pub equatorial : Vector → ℕ → Equatorial
equatorial v d = record { right_ascension = pos (direction v.x v.y); declination = latitude v.x v.y v.z; distance = pos d }
