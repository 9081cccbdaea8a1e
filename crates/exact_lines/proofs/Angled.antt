-- The exact test where the working test decides it: what is not listed for k is not within k, what is listed for k is within k + 2. So the fractions
-- of the exact test, too long to work out at an angle, are never worked. Assumes nothing.
use mathlib.Core.Path.{◌≡◌, sym, ap, ap₂, ◌∙◌, subst}
use mathlib.Core.Bool.{Bool, true, false}
use mathlib.Core.List.{List}
use Prim.Native.Nat.{ℕ, ◌+◌, ◌-◌, ◌≤◌}
use native.Mathlib.Omega.{arith}
use lib.IntN.{ℤ, pos, nat_abs, ◌*ℤ◌}
use lib.Signed.{le_z}
use Rattle.integers.specs.Division.{rounded}
use Rattle.integers.proofs.Root.{IsRoot, root_is}
use Rattle.integers.proofs.Tests.{false_true}
use Rattle.units.specs.Units.{U, t_limit}
use Rattle.units.specs.declared.Coordinates.{Coordinates}
use Rattle.limits.specs.declared.Term.{Term}
use Rattle.limits.specs.Wide.{reaches}
use Rattle.packed.specs.Series.{parse, accepted, pack}
use Rattle.series.specs.Sums.{coordinates}
use Rattle.rectangular.specs.declared.Vector.{Vector}
use Rattle.rectangular.specs.Vectors.{geocentric, sun, squared, length, unit}
use Rattle.rectangular.specs.Rectangular.{place}
use Rattle.rectangular.specs.Sight.{usable, distance, places_usable}
use Rattle.separation.specs.Arcminutes.{least_keep_out, greatest_keep_out}
use Rattle.separation.specs.Exact.{WithinArcminutes}
use Rattle.separation.specs.Listed.{squared_separation, threshold, listed}
use Rattle.separation.proofs.Core.{within_is_listed, listed_is_within}
use Rattle.sunlist.specs.Demand.{exact_coordinates}
use Rattle.sunlist.proofs.Near.{near}

-- Two series that are accepted, at an instant within the limit, with what is worked of them: coordinates, the vectors of the Sun and of the planet, and
-- the lengths of these, by which the places are usable.
pub record Worked (t : ℤ) (planet earth : List (List Term)) : Type 0 where
  pub p : Coordinates
  pub e : Coordinates
  pub s : Vector
  pub g : Vector
  pub s_length : ℕ
  pub g_length : ℕ
  pub planet_in : parse (pack planet) ≡ accepted planet
  pub earth_in : parse (pack earth) ≡ accepted earth
  pub time_in : nat_abs t ≤ t_limit
  pub planet_asked : reaches planet t ≡ true
  pub earth_asked : reaches earth t ≡ true
  pub p_is : coordinates t planet ≡ p
  pub e_is : coordinates t earth ≡ e
  pub s_is : sun (place e) ≡ s
  pub g_is : geocentric (place p) (place e) ≡ g
  pub s_root : IsRoot (nat_abs (squared s)) s_length
  pub g_root : IsRoot (nat_abs (squared g)) g_length
  pub usable_is : usable p.radius e.radius g_length ≡ true

-- The unit vector by a length.
abbrev unit_by : Vector → ℕ → Vector
unit_by v l = record { x = rounded (pos U *ℤ v.x) l; y = rounded (pos U *ℤ v.y) l; z = rounded (pos U *ℤ v.z) l }

length_is : (v : Vector) (l : ℕ) → IsRoot (nat_abs (squared v)) l → length v ≡ l
unfolding length
length_is v l i = sym (root_is (nat_abs (squared v)) l i)

unit_is : (v : Vector) (l : ℕ) → IsRoot (nat_abs (squared v)) l → unit v ≡ unit_by v l
unfolding unit
unit_is v l i = ap (unit_by v) (length_is v l i)

-- The working test by the figures that are worked.
abbrev pub listed_by : (k : ℕ) (s g : Vector) (s_length g_length : ℕ) → Bool
listed_by k s g m n = le_z (squared_separation (unit_by s m) (unit_by g n)) (threshold k)

module _ {t : ℤ} {planet earth : List (List Term)} (w : Worked t planet earth) where
  listed_is : (k : ℕ) → listed k (coordinates t planet) (coordinates t earth) ≡ listed_by k w.s w.g w.s_length w.g_length
  unfolding listed
  listed_is k =
      ap₂ (λ (a b : Coordinates). listed k a b) w.p_is w.e_is
      ∙ ap₂ (λ (a b : Vector). le_z (squared_separation (unit a) (unit b)) (threshold k)) w.s_is w.g_is
      ∙ ap₂ (λ (a b : Vector). le_z (squared_separation a b) (threshold k)) (unit_is w.s w.s_length w.s_root) (unit_is w.g w.g_length w.g_root)

  all_usable : places_usable (coordinates t planet) (coordinates t earth) ≡ true
  unfolding places_usable distance
  all_usable =
      ap₂ (λ (a b : Coordinates). places_usable a b) w.p_is w.e_is
      ∙ ap (λ (d : ℕ). usable w.p.radius w.e.radius d) (ap length w.g_is ∙ length_is w.g w.g_length w.g_root) ∙ w.usable_is

  pub outside : (k : ℕ) → least_keep_out ≤ k → k ≤ greatest_keep_out → listed_by k w.s w.g w.s_length w.g_length ≡ false
      → WithinArcminutes k (exact_coordinates (record { ms = t }) planet) (exact_coordinates (record { ms = t }) earth) → ⊥
  outside k h l n within =
      false_true (sym (listed_is k ∙ n) ∙ within_is_listed _ _ _ _ (near (pack planet) planet (record { ms = t }) w.planet_in w.time_in w.planet_asked)
      (near (pack earth) earth (record { ms = t }) w.earth_in w.time_in w.earth_asked) all_usable k h l within)

  pub inside : (k : ℕ) → least_keep_out + 2 ≤ k → k ≤ greatest_keep_out + 2 → listed_by (k - 2) w.s w.g w.s_length w.g_length ≡ true
      → WithinArcminutes k (exact_coordinates (record { ms = t }) planet) (exact_coordinates (record { ms = t }) earth)
  inside k h l y =
      let back : k - 2 + 2 ≡ k = omega arith in
      subst (λ (n : ℕ). WithinArcminutes n (exact_coordinates (record { ms = t }) planet) (exact_coordinates (record { ms = t }) earth)) back
      (listed_is_within _ _ _ _ (near (pack planet) planet (record { ms = t }) w.planet_in w.time_in w.planet_asked)
      (near (pack earth) earth (record { ms = t }) w.earth_in w.time_in w.earth_asked)
      all_usable (k - 2) (omega arith) (omega arith) (listed_is (k - 2) ∙ y))
