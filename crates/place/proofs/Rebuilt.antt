-- The vector rebuilt from its two angles and turned to the equator, as the code works it. Assumes nothing.
use mathlib.Core.Path.{◌≡◌, sym, ap, ap₂, ◌∙◌, subst}
use Prim.Native.Nat.{ℕ, ◌+◌, ◌-◌, ◌*◌, ◌%◌, ◌^◌, ◌≤◌, ◌<◌}
use native.Mathlib.Omega.{arith, by_contra}
use native.Mathlib.Nat.{mul-le-mul}
use lib.IntN.{ℤ, pos, nat_abs, ◌+ℤ◌, ◌*ℤ◌}
use mir.Syntax.{w64}
use mir.Val.{to_z}
use Rattle.std.proofs.lemmas.Int.{to_z_pos}
use Rattle.integers.specs.Division.{modulo}
use Rattle.integers.specs.Root.{root}
use Rattle.integers.proofs.Order.{nat_abs-*}
use Rattle.integers.proofs.Division.{modulo_lt, modulo_add}
use Rattle.integers.proofs.Root.{root_spec}
use Rattle.arith.proofs.Ranges.{rounded_within}
use Rattle.units.specs.Units.{turn, t_limit}
use Rattle.units.specs.declared.Instant.{Instant}
use Rattle.cosine.proofs.WholeTurns.{cosine_mod, sine_mod}
use Rattle.rectangular.specs.declared.Vector.{Vector}
use Rattle.rectangular.specs.Vectors.{length, squared}
use Rattle.rectangular.specs.Rectangular.{rectangular}
use Rattle.rectangular.specs.Machine.Components.{Components}
use Rattle.arith.proofs.Cells.{Cell, cell}
use Rattle.rectangular.proofs.Places.{squared_size, reduced, residue_small, smaller, rectangular_size}
use Rattle.direction.specs.Angles.{units_angle}
use Rattle.direction.specs.Direction.{turn_steps, steps_angle, direction, latitude}
use Rattle.nutation.specs.Nutation.{nutation_angle, obliquity_angle}
use Rattle.place.specs.declared.Apparent.{Apparent}
use Rattle.place.specs.Apparent.{rebuilt, to_equator, apparent}
use Rattle.place.specs.Machine.Reach.{reach, length_reach, equator_reach}
use Rattle.place.proofs.Directions.{direction_le, latitude_le, direction_told, latitude_told}
use Rattle.place.proofs.Equator.{equator_size}

-- ---- the length

length_less : (v : Vector) → Components reach v → length v < length_reach
unfolding length
length_less v c =
    let s = (root_spec (nat_abs (squared v))).low in
    let h = squared_size reach v c in
    below (root (nat_abs (squared v)))
    (by_contra (root (nat_abs (squared v))) (length_reach - 1)
    (λ (g : length_reach - 1 < root (nat_abs (squared v))). let m : length_reach * length_reach ≤ root (nat_abs (squared v)) * root (nat_abs (squared v)) =
    mul-le-mul g g in omega arith))
  where
    below : (n : ℕ) → n ≤ length_reach - 1 → n < length_reach
    below n h = omega arith

rebuilt_size : (n : ℤ) (v : Vector) → Components reach v → Components length_reach (rebuilt n v)
unfolding rebuilt
rebuilt_size n v c = let l = length_less v c in smaller (length v) length_reach _ (omega arith) (rectangular_size (pos (length v)) _ _)

pub at_equator : (e n : ℤ) (v : Vector) → Components reach v → Components equator_reach (to_equator e (rebuilt n v))
at_equator e n v c = equator_size length_reach e (rebuilt n v) (rebuilt_size n v c)

-- ---- angle_of: a direction or a latitude k as an angle

module _ (k : ℤ) (h : nat_abs k ≤ turn_steps) where
  k_cell : Cell k ≡ k
  k_cell = cell k (omega arith)

  pub steps_ask : (0 < turn_steps) × (turn_steps ≤ 2 ^ 47) × (nat_abs (Cell k) ≤ 2 ^ 47) × (nat_abs (Cell k) * turn < turn_steps * (2 ^ 63 - 1))
  steps_ask = (omega arith, omega arith, rw k_cell (omega arith), rw k_cell (omega arith))

  angle_size : nat_abs (steps_angle k) ≤ turn
  unfolding steps_angle units_angle
  angle_size = rounded_within (k *ℤ pos turn) turn_steps turn (omega arith) (let a = nat_abs-* k (pos turn) in omega arith)

  pub angle_is : (w : ℤ) (r : ℕ) → w ≡ units_angle turn_steps (Cell k) → r ≡ modulo (Cell w) turn → r ≡ modulo (steps_angle k) turn
  unfolding steps_angle
  angle_is w r e f =
      let p : w ≡ steps_angle k = e ∙ ap (units_angle turn_steps) k_cell in
      let l = angle_size in
      f ∙ ap (λ (z : ℤ). modulo z turn) (cell w (subst (λ (s : ℤ). nat_abs s < 2 ^ 63) (sym p) (omega arith)) ∙ p)

-- ---- rebuild: the direction k and the latitude h, their angles y and x, the nutation's angle z

module _ (v : Vector) (n : ℤ) (c : Components reach v) (cn : Cell n ≡ n) (k h : ℤ) (ek : k ≡ pos (direction (Cell v.x) (Cell v.y)))
    (eh : h ≡ latitude (Cell v.x) (Cell v.y) (Cell v.z)) where
  wider : Components equator_reach v
  wider = smaller reach equator_reach v (omega arith) c

  k_is : Cell k ≡ pos (direction v.x v.y)
  k_is = direction_told v wider k ek

  h_is : Cell h ≡ latitude v.x v.y v.z
  h_is = latitude_told v wider h eh

  pub latitude_asks : nat_abs (Cell h) ≤ turn_steps
  latitude_asks = rw h_is (latitude_le v.x v.y v.z)

  pub direction_asks : nat_abs (Cell k) ≤ turn_steps
  direction_asks = rw k_is (direction_le v.x v.y)

  module _ (x y z : ℕ) (ex : x ≡ modulo (steps_angle (Cell h)) turn) (ey : y ≡ modulo (steps_angle (Cell k)) turn) (ez : z ≡ modulo (Cell n) turn) where
    pub sum_fits : y + z < 2 ^ 64
    sum_fits = let f = modulo_lt (steps_angle (Cell k)) turn (omega arith) in let g = modulo_lt (Cell n) turn (omega arith) in omega arith

    x_is : x ≡ modulo (steps_angle (latitude v.x v.y v.z)) turn
    x_is = ex ∙ ap (λ (s : ℤ). modulo (steps_angle s) turn) h_is

    sum_is : (y + z) % turn ≡ modulo (steps_angle (pos (direction v.x v.y)) +ℤ n) turn
    sum_is =
        ap₂ (λ (p q : ℕ). (p + q) % turn) (ey ∙ ap (λ (s : ℤ). modulo (steps_angle s) turn) k_is) (ez ∙ ap (λ (s : ℤ). modulo s turn) cn)
        ∙ sym (modulo_add (steps_angle (pos (direction v.x v.y))) n turn (omega arith))

    module _ (m : ℕ) (em : m ≡ length v) where
      r_is : to_z w64 m ≡ pos (length v)
      r_is = let h = length_less v c in rw (em, to_z_pos w64 (length v) (omega arith))

      pub angles_ask : (nat_abs (to_z w64 m) < 2 ^ 63) × (x < 2 ^ 63) × ((y + z) % turn < 2 ^ 63)
      angles_ask = (rw r_is (let h = length_less v c in omega arith), residue_small x _ ex, residue_small ((y + z) % turn) _ sum_is)

      pub rebuilt_is : (w : Vector) → w ≡ rectangular (to_z w64 m) (pos x) (pos ((y + z) % turn)) → w ≡ rebuilt n v
      unfolding rebuilt
      rebuilt_is w e =
          e ∙ three rectangular r_is (ap pos x_is) (ap pos sum_is)
          ∙ reduced (pos (length v)) (steps_angle (latitude v.x v.y v.z)) (steps_angle (pos (direction v.x v.y)) +ℤ n)
        where
          three : (f : ℤ → ℤ → ℤ → Vector) {a a' b b' d d' : ℤ} → a ≡ a' → b ≡ b' → d ≡ d' → f a b d ≡ f a' b' d'
          three f p q s = rw (p, q, s)

-- ---- turned to the equator by an angle less its whole turns

to_equator_mod : (e : ℤ) (v : Vector) → to_equator (pos (modulo e turn)) v ≡ to_equator e v
unfolding to_equator
to_equator_mod e v = rw (cosine_mod e, sine_mod e)

pub to_equator_asks : (n e : ℤ) (v w : Vector) (x : ℕ) → Components reach v → w ≡ rebuilt n v → x ≡ modulo e turn → Components (2 ^ 61) w × (x < 2 ^ 63)
to_equator_asks n e v w x c p q =
    (subst (Components (2 ^ 61)) (sym p) (smaller length_reach (2 ^ 61) _ (omega arith) (rebuilt_size n v c)), residue_small x e q)

pub apparent_vector_is : (n e : ℤ) (v w r : Vector) (x : ℕ) → Cell n ≡ n → w ≡ rebuilt (Cell n) v → Cell e ≡ e → x ≡ modulo (Cell e) turn
    → r ≡ to_equator (pos x) w → r ≡ to_equator e (rebuilt n v)
apparent_vector_is n e v w r x cn p f q g =
    g ∙ ap₂ (λ (m : ℕ) (u : Vector). to_equator (pos m) u) (q ∙ ap (λ (z : ℤ). modulo z turn) f) (p ∙ ap (λ (z : ℤ). rebuilt z v) cn)
    ∙ to_equator_mod e (rebuilt n v)

-- ---- with the angles of an instant

module _ (t : Instant) (v w : Vector) (n e : ℤ) (cn : Cell n ≡ n) (ce : Cell e ≡ e) (en : n ≡ nutation_angle (Cell t.ms))
    (ee : e ≡ obliquity_angle (Cell t.ms)) (h : nat_abs t.ms ≤ t_limit) where
  at_t : Cell t.ms ≡ t.ms
  at_t = cell t.ms (omega arith)

  pub apparent_is : w ≡ to_equator (Cell e) (rebuilt (Cell n) v)
      → ◌≡◌ {A = Apparent} (record { vector = w; nutation = Cell n; obliquity = Cell e }) (apparent t v)
  unfolding apparent
  apparent_is p =
      let a : Cell n ≡ nutation_angle t.ms = cn ∙ en ∙ ap nutation_angle at_t in
      let b : Cell e ≡ obliquity_angle t.ms = ce ∙ ee ∙ ap obliquity_angle at_t in
      let q : w ≡ to_equator (obliquity_angle t.ms) (rebuilt (nutation_angle t.ms) v) = p ∙ ap₂ (λ (y z : ℤ). to_equator y (rebuilt z v)) b a in
      rw (q, a, b)
