-- What is worked out once for an instant, so that a term's angle needs no wide product. Held by the code of `term` and `parts`; no rule speaks of it.
use Rattle.std.specs.Prelude.{ℕ, ◌+◌, ◌*◌, ◌/◌, ◌<◌, ℤ, pos, ◌+ℤ◌, ◌-ℤ◌, ◌*ℤ◌, ◌≡◌}
use Rattle.units.specs.Units.{millennium, turn, angle_per_part, c_limit}
use Rattle.cosine.specs.declared.term.ByCuts.{ByCuts}
use Rattle.cosine.specs.declared.term.ByTick.{ByTick}

-- A term with c = 1 turns by one unit of angle in so many milliseconds: c t / tick is angle_per_part c t / T.
abbrev pub tick : ℕ
tick = millennium / angle_per_part

-- What a quotient by a tick is rounded by.
abbrev pub half_tick : ℕ
half_tick = tick / 2

-- A divisor of the turn, and how often the turn has it: cut h and cut (h mod cuts) differ by whole turns.
abbrev pub cut : ℕ
cut = 9367192

abbrev pub cuts : ℕ
cuts = turn / cut

-- c is raised by c_bias, 2^57, so that it is not negative, and split into two digits of this base, 2^29; the second is at most `top_digit`.
abbrev pub base : ℕ
base = 536870912

abbrev half_base : ℕ
half_base = base / 2

abbrev pub c_bias : ℕ
c_bias = half_base * base

abbrev pub top_digit : ℕ
top_digit = (c_limit + c_bias) / base

-- tick q + r, with q below a turn and r below a tick, is multiplied by no more at once: 256 turns are below 2^64. Four such steps reach a digit's place.
abbrev pub step_limit : ℕ
step_limit = 256

abbrev pub three_steps : ℕ
three_steps = step_limit * step_limit * step_limit

-- The last step to the second digit's place, and from there to c_bias.
abbrev pub base_step : ℕ
base_step = base / three_steps

abbrev pub bias_step : ℕ
bias_step = half_base / three_steps

-- Two products of a digit and a number below `cuts`, and a third such number, are below this.
abbrev pub combined_limit : ℕ
combined_limit = (base + top_digit) * cuts

-- n is tick q + r, but for whole turns in the quotient.
pub record Residue (n : ℤ) (q r : ℕ) : Type 0 where
  pub turns : ℤ
  pub is : n ≡ pos tick *ℤ (pos turn *ℤ turns +ℤ pos q) +ℤ pos r

-- g times tick q + r, brought below a tick and a turn again.
pub record Times (g q r : ℕ) (z : ByTick) : Type 0 where
  pub is : Residue (pos g *ℤ (pos tick *ℤ pos q +ℤ pos r)) z.q z.r
  pub q_in : z.q < turn
  pub r_in : z.r < tick

-- t times each place of a number in that base, and half a tick less t times what c is raised by; each quotient is cut h + l.
pub record Ready (t : ℤ) (p₀ p₁ p₂ : ByCuts) : Type 0 where
  pub place_0 : Residue t (cut * p₀.h + p₀.l) p₀.r
  pub place_1 : Residue (pos base *ℤ t) (cut * p₁.h + p₁.l) p₁.r
  pub rest : Residue (pos half_tick -ℤ pos c_bias *ℤ t) (cut * p₂.h + p₂.l) p₂.r
  pub h0_in : p₀.h < cuts
  pub h1_in : p₁.h < cuts
  pub h2_in : p₂.h < cuts
  pub l0_in : p₀.l < cut
  pub l1_in : p₁.l < cut
  pub l2_in : p₂.l < cut
  pub r0_in : p₀.r < tick
  pub r1_in : p₁.r < tick
  pub r2_in : p₂.r < 2 * tick
