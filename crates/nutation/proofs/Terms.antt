-- A row's argument, as it is and less whole turns, its angle, and the sizes of its coefficients and terms. Assumes nothing.
use mathlib.Core.Path.{◌≡◌, refl, sym, ap, ap₂, ◌∙◌, subst}
use mathlib.Core.List.{List, [], ◌∷◌}
use Prim.Native.Nat.{ℕ, ◌-◌, ◌*◌, ◌^◌, ◌≤◌, ◌<◌}
use native.Mathlib.Omega.{arith}
use lib.Dec.{T, lit<, lit≤}
use lib.Signed.{mag, non_neg}
use lib.IntN.{ℤ, pos, nat_abs, ◌+ℤ◌, ◌*ℤ◌}
use mir.Syntax.{w64}
use mir.Val.{Fits, SFits, to_z}
use Rattle.std.proofs.lemmas.Int.{to_z_pos}
use Rattle.arith.proofs.Signs.{back, as_natural, is_nonNeg}
use Rattle.integers.specs.Order.{◌≼◌}
use Rattle.integers.specs.Division.{floor, rounded, modulo}
use Rattle.integers.proofs.Pairs.{nonneg}
use Rattle.integers.proofs.Auto.{ring!, polys}
use Rattle.integers.proofs.Order.{nat_abs-*, nat_abs-+, fits}
use Rattle.integers.proofs.Division.{floor_modulo, modulo_lt, rounded_add}
use Rattle.integers.proofs.Rounding.{rounded_mono, rounded_zero, rounded_scale}
use Rattle.arith.proofs.Ranges.{scaled_within}
use Rattle.arith.proofs.Cells.{Cell, cell}
use Rattle.units.specs.Units.{U, millennium, turn, t_limit}
use Rattle.cosine.specs.Cosine.{cosine, sine}
use Rattle.cosine.proofs.WholeTurns.{cosine_turns, sine_turns}
use Rattle.reference_cosine.proofs.Ranges.{cosine_size, sine_size}
use Rattle.direction.specs.Angles.{units_angle}
use Rattle.nutation_table.specs.declared.Row.{Row}
use Rattle.nutation_table.specs.Table.{psi, psi_rate, eps, eps_rate, times_d, times_m, times_m1, times_f, times_node}
use Rattle.nutation_table.specs.Machine.Small.{figure_limit, rate_limit, Small}
use Rattle.nutation.specs.declared.Arguments.{Arguments}
use Rattle.nutation.specs.Nutation.{polynomial, argument, mean_elongation, sun_anomaly, moon_anomaly, latitude_argument, moon_node, row_argument}
use Rattle.nutation.specs.Nutation.{row_angle, argument_turn, coefficient, longitude_term, obliquity_term}
use Rattle.nutation.specs.Machine.Reduced.{century, centuries, By, less_turns, At, combined, coefficient_limit}
use Rattle.nutation.proofs.Polynomials.{polynomial_scale, step_bound}

-- ---- the time
pub by_time : (t : ℤ) → nat_abs t ≤ t_limit → By t century
by_time t h = record { positive = lit< tt; divisor = lit≤ tt; factor = omega arith; ratio = omega arith }

pub argument_is : (t : ℤ) (cs : List ℤ) → polynomial t century cs ≡ argument t cs
argument_is t cs = sym (polynomial_scale 10 (lit< tt) t century (lit< tt) cs)

-- ---- the row's argument
sum_split : (D a b c d e qa qb qc qd qe ra rb rc rd re A B C E F : ℤ) → D *ℤ qa +ℤ ra ≡ A → D *ℤ qb +ℤ rb ≡ B → D *ℤ qc +ℤ rc ≡ C → D *ℤ qd +ℤ rd ≡ E
    → D *ℤ qe +ℤ re ≡ F
    → D *ℤ (a *ℤ qa +ℤ b *ℤ qb +ℤ c *ℤ qc +ℤ d *ℤ qd +ℤ e *ℤ qe) +ℤ (a *ℤ ra +ℤ b *ℤ rb +ℤ c *ℤ rc +ℤ d *ℤ rd +ℤ e *ℤ re)
    ≡ a *ℤ A +ℤ b *ℤ B +ℤ c *ℤ C +ℤ d *ℤ E +ℤ e *ℤ F
sum_split D a b c d e qa qb qc qd qe ra rb rc rd re A B C E F h1 h2 h3 h4 h5 =
    ring! (D ∷ a ∷ b ∷ c ∷ d ∷ e ∷ qa ∷ qb ∷ qc ∷ qd ∷ qe ∷ ra ∷ rb ∷ rc ∷ rd ∷ re ∷ [])
    {y = a *ℤ (D *ℤ qa +ℤ ra) +ℤ b *ℤ (D *ℤ qb +ℤ rb) +ℤ c *ℤ (D *ℤ qc +ℤ rc) +ℤ d *ℤ (D *ℤ qd +ℤ rd) +ℤ e *ℤ (D *ℤ qe +ℤ re)}
    (search polys depth 60 fits 100000) tt
    ∙ ap₂ ◌+ℤ◌ (ap₂ ◌+ℤ◌ (ap₂ ◌+ℤ◌ (ap₂ ◌+ℤ◌ (ap (λ t. a *ℤ t) h1) (ap (λ t. b *ℤ t) h2)) (ap (λ t. c *ℤ t) h3)) (ap (λ t. d *ℤ t) h4)) (ap (λ t. e *ℤ t) h5)

reduced_sum : ℤ → Row → ℤ
reduced_sum t r = times_d r *ℤ less_turns (mean_elongation t) +ℤ times_m r *ℤ less_turns (sun_anomaly t) +ℤ times_m1 r *ℤ less_turns (moon_anomaly t)
    +ℤ times_f r *ℤ less_turns (latitude_argument t) +ℤ times_node r *ℤ less_turns (moon_node t)

combined_is : (t : ℤ) (r : Row) (a : Arguments) → At t a → combined r a ≡ reduced_sum t r
unfolding combined reduced_sum
combined_is t r a h =
    ap₂ ◌+ℤ◌ (ap₂ ◌+ℤ◌ (ap₂ ◌+ℤ◌ (ap₂ ◌+ℤ◌ (ap (λ z. times_d r *ℤ z) h.elongation_at) (ap (λ z. times_m r *ℤ z) h.sun_at))
    (ap (λ z. times_m1 r *ℤ z) h.moon_at)) (ap (λ z. times_f r *ℤ z) h.latitude_at)) (ap (λ z. times_node r *ℤ z) h.node_at)

whole_turns : (t : ℤ) (r : Row) → ℤ
whole_turns t r = times_d r *ℤ floor (mean_elongation t) argument_turn +ℤ times_m r *ℤ floor (sun_anomaly t) argument_turn
    +ℤ times_m1 r *ℤ floor (moon_anomaly t) argument_turn +ℤ times_f r *ℤ floor (latitude_argument t) argument_turn +ℤ times_node r *ℤ floor (moon_node t)
    argument_turn

sum_turns : (t : ℤ) (r : Row) → pos argument_turn *ℤ whole_turns t r +ℤ reduced_sum t r ≡ row_argument t r
unfolding row_argument reduced_sum whole_turns less_turns
sum_turns t r =
    let d = argument_turn in
    sum_split (pos d) (times_d r) (times_m r) (times_m1 r) (times_f r) (times_node r) _ _ _ _ _ _ _ _ _ _ _ _ _ _ _
    (floor_modulo (mean_elongation t) d (lit< tt)) (floor_modulo (sun_anomaly t) d (lit< tt)) (floor_modulo (moon_anomaly t) d (lit< tt))
    (floor_modulo (latitude_argument t) d (lit< tt)) (floor_modulo (moon_node t) d (lit< tt))

-- ---- the angle of a sum and of what is left of it after whole turns
turn_out : (k m : ℤ) → units_angle argument_turn (pos argument_turn *ℤ k +ℤ m) ≡ pos turn *ℤ k +ℤ units_angle argument_turn m
unfolding units_angle
turn_out k m =
    ap (λ z. rounded z argument_turn) (ring! (k ∷ m ∷ []) {y = pos argument_turn *ℤ (pos turn *ℤ k) +ℤ m *ℤ pos turn} (search polys depth 60 fits 100000) tt)
    ∙ rounded_add (pos turn *ℤ k) (m *ℤ pos turn) argument_turn (lit< tt)

pub cosine_left : (k m s : ℤ) → pos argument_turn *ℤ k +ℤ m ≡ s → cosine (units_angle argument_turn m) ≡ cosine (units_angle argument_turn s)
cosine_left k m s e = sym (ap (λ z. cosine (units_angle argument_turn z)) (sym e) ∙ ap cosine (turn_out k m) ∙ cosine_turns k (units_angle argument_turn m))

pub sine_left : (k m s : ℤ) → pos argument_turn *ℤ k +ℤ m ≡ s → sine (units_angle argument_turn m) ≡ sine (units_angle argument_turn s)
sine_left k m s e = sym (ap (λ z. sine (units_angle argument_turn z)) (sym e) ∙ ap sine (turn_out k m) ∙ sine_turns k (units_angle argument_turn m))

pub cosine_row : (t : ℤ) (r : Row) (a : Arguments) (s c : ℤ) → At t a → s ≡ combined r a → c ≡ cosine (units_angle argument_turn s) → c ≡ cosine (row_angle t r)
unfolding row_angle
cosine_row t r a s c h e f = f ∙ ap (λ z. cosine (units_angle argument_turn z)) (e ∙ combined_is t r a h)
    ∙ cosine_left (whole_turns t r) (reduced_sum t r) (row_argument t r) (sum_turns t r)

pub sine_row : (t : ℤ) (r : Row) (a : Arguments) (s c : ℤ) → At t a → s ≡ combined r a → c ≡ sine (units_angle argument_turn s) → c ≡ sine (row_angle t r)
unfolding row_angle
sine_row t r a s c h e f = f ∙ ap (λ z. sine (units_angle argument_turn z)) (e ∙ combined_is t r a h)
    ∙ sine_left (whole_turns t r) (reduced_sum t r) (row_argument t r) (sum_turns t r)

-- the angle of a remainder is not negative, and small enough to be worked out
pub left_small : (m : ℕ) → m < argument_turn → m ≤ 2 ^ 47
left_small m h = omega arith

pub left_room : (m : ℕ) → m < argument_turn → m * turn < argument_turn * (2 ^ 63 - 1)
left_room m h = omega arith

left_angle : (m : ℕ) → pos 0 ≼ units_angle argument_turn (pos m)
unfolding units_angle
left_angle m =
    subst (λ z. z ≼ rounded (pos m *ℤ pos turn) argument_turn) (rounded_zero argument_turn (lit< tt))
    (rounded_mono (pos 0) (pos m *ℤ pos turn) argument_turn (lit< tt) (nonneg (m * turn)))

-- ---- a remainder by the turn and its angle, as the code has them
pub record Left (a : ℤ) (n : ℕ) : Type 0 where
  pub is : n ≡ modulo a argument_turn
  pub small : n < argument_turn
  pub room : SFits w64 (pos n)
  pub cast : to_z w64 n ≡ pos n

pub left_told : (a : ℤ) (n : ℕ) → SFits w64 a → n ≡ modulo (Cell a) argument_turn → Left a n
left_told a n f e =
    let p : n ≡ modulo a argument_turn = rw (back a f) at e in
    let h : n < argument_turn = subst (λ (m : ℕ). m < argument_turn) (sym p) (modulo_lt a argument_turn (lit< tt)) in
    record { is = p; small = h; room = record { sfits = omega arith }; cast = to_z_pos w64 n (omega arith) }

module _ (a : ℤ) (n : ℕ) (l : Left a n) (r : ℤ) (fr : SFits w64 r) (pr : r ≡ units_angle argument_turn (to_z w64 n)) where
  angle_told : r ≡ units_angle argument_turn (pos n)
  angle_told = rw l.cast at pr

  angle_natural : pos (nat_abs r) ≡ r
  angle_natural = as_natural r (subst (λ z. pos 0 ≼ z) (sym angle_told) (left_angle n))

  angle_small : nat_abs r < 2 ^ 63
  angle_small = subst (λ z. mag z < 2 ^ 63) (sym angle_natural) fr.sfits

  pub angle_casts : T (non_neg (Cell r)) × Fits w64 (nat_abs (Cell r))
  angle_casts = rw (back r fr) (is_nonNeg r (subst (λ z. pos 0 ≼ z) (sym angle_told) (left_angle n)), record { fits = (let h = angle_small in omega arith) })

  pub angle_below : nat_abs (Cell r) < 2 ^ 63
  angle_below = rw (back r fr) angle_small

  split : pos argument_turn *ℤ floor a argument_turn +ℤ pos n ≡ a
  split = ap (λ (m : ℕ). pos argument_turn *ℤ floor a argument_turn +ℤ pos m) l.is ∙ floor_modulo a argument_turn (lit< tt)

  worked : pos (nat_abs (Cell r)) ≡ units_angle argument_turn (pos n)
  worked = ap (λ (z : ℤ). pos (nat_abs z)) (back r fr) ∙ angle_natural ∙ angle_told

  pub cosine_told : (c : ℤ) → c ≡ cosine (pos (nat_abs (Cell r))) → c ≡ cosine (units_angle argument_turn a)
  cosine_told c e = e ∙ ap cosine worked ∙ cosine_left (floor a argument_turn) (pos n) a split

  pub sine_told : (c : ℤ) → c ≡ sine (pos (nat_abs (Cell r))) → c ≡ sine (units_angle argument_turn a)
  sine_told c e = e ∙ ap sine worked ∙ sine_left (floor a argument_turn) (pos n) a split

-- ---- coefficients and terms
pub coefficient_is : (t first rate r : ℤ) → r ≡ pos 10 *ℤ first +ℤ rounded (rate *ℤ t) century → r ≡ coefficient t first rate
unfolding coefficient
coefficient_is t first rate r e =
    e ∙ ap (λ z. pos 10 *ℤ first +ℤ z)
    (sym (ap (λ z. rounded z millennium) (ring! (t ∷ rate ∷ []) {y = pos 10 *ℤ (rate *ℤ t)} (search polys depth 60 fits 100000) tt)
    ∙ rounded_scale 10 (rate *ℤ t) century (lit< tt) (lit< tt)))

pub ten_times : (first : ℤ) → nat_abs first ≤ figure_limit → nat_abs (pos 10 *ℤ first) ≤ 10 * figure_limit
ten_times first h = omega (arith, nat_abs-* (pos 10) first)

pub coefficient_small : (t first rate : ℤ) → nat_abs t ≤ t_limit → nat_abs first ≤ figure_limit → nat_abs rate ≤ rate_limit
    → nat_abs (pos 10 *ℤ first +ℤ rounded (rate *ℤ t) century) ≤ coefficient_limit
coefficient_small t first rate h k l = omega (arith, step_bound centuries (pos 10 *ℤ first) rate t century (lit< tt) (by_time t h).ratio, ten_times first k)

term_small : (a c : ℤ) → nat_abs a ≤ coefficient_limit → nat_abs c ≤ U → nat_abs (rounded (a *ℤ c) U) ≤ coefficient_limit
term_small a c h k = scaled_within a c U coefficient_limit (lit< tt) h k

coefficient_within : (t first rate : ℤ) → nat_abs t ≤ t_limit → nat_abs first ≤ figure_limit → nat_abs rate ≤ rate_limit
    → nat_abs (coefficient t first rate) ≤ coefficient_limit
coefficient_within t first rate h k l = subst (λ z. nat_abs z ≤ coefficient_limit) (coefficient_is t first rate _ refl) (coefficient_small t first rate h k l)

pub longitude_small : (t : ℤ) (r : Row) → nat_abs t ≤ t_limit → Small r → nat_abs (longitude_term t r) ≤ coefficient_limit
unfolding longitude_term
longitude_small t r h k = term_small (coefficient t (psi r) (psi_rate r)) (sine (row_angle t r))
    (coefficient_within t (psi r) (psi_rate r) h k.psi_small k.psi_rate_small) (sine_size (row_angle t r))

pub obliquity_small : (t : ℤ) (r : Row) → nat_abs t ≤ t_limit → Small r → nat_abs (obliquity_term t r) ≤ coefficient_limit
unfolding obliquity_term
obliquity_small t r h k = term_small (coefficient t (eps r) (eps_rate r)) (cosine (row_angle t r))
    (coefficient_within t (eps r) (eps_rate r) h k.eps_small k.eps_rate_small) (cosine_size (row_angle t r))

-- ---- sizes as the code meets them
pub same_small : (z w : ℤ) (k : ℕ) → z ≡ w → nat_abs w ≤ k → nat_abs z ≤ k
same_small z w k e h = subst (λ t. nat_abs t ≤ k) (sym e) h

pub sum_fits : (a b : ℤ) → nat_abs a ≤ 2 ^ 60 → nat_abs b ≤ 2 ^ 60 → SFits w64 (a +ℤ b)
sum_fits a b h k = fits (a +ℤ b) (omega (arith, nat_abs-+ a b))

pub kept : (z : ℤ) (k : ℕ) → k < 2 ^ 63 → nat_abs z ≤ k → Cell z ≡ z
kept z k l h = cell z (omega arith)
