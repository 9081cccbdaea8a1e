-- An answer of the library keeps its promises when it is shown to C: no refusal has the number 0, and no count is clipped. Assumes nothing.
use mathlib.Core.Path.{◌≡◌, refl, sym, ap, ◌∙◌}
use mathlib.Core.List.{List}
use Prim.Native.Nat.{ℕ}
use native.Mathlib.Omega.{arith}
use lib.IntN.{ℤ}
use Rattle.units.specs.Refusals.{number}
use Rattle.units.specs.declared.Refusal.{Refusal}
use Rattle.units.proofs.Refusals.{number_positive}
use Rattle.std.specs.Prelude.{Err, Ok, Result}
use Rattle.units.specs.declared.Coordinates.{Coordinates}
use Rattle.series.specs.Call.{CoordinatesPromised}
use Rattle.sunlist.specs.Call.{SunListPromised}
use Rattle.answers.specs.declared.One.{One}
use Rattle.answers.specs.declared.Three.{Three}
use Rattle.answers.specs.Answers.{clip, one_refused, one_counted, three_refused, list_shown, coordinates_shown}
use Rattle.answers.proofs.Held.{clip_small}
use Rattle.stephylax.specs.Promises.{instant, coordinates_of, CCoordinatesPromised, CSunListPromised}

not_zero : {A : Type 0} (x : Refusal) → number x ≡ 0 → A
not_zero x e = absurd (omega (arith, number_positive x))

-- What is shown with refusal 0 was answered.
list_answered : (a : Result ℕ Refusal) (r : One) → r ≡ list_shown a → r.refusal ≡ 0 → (n : ℕ) × (a ≡ Ok n) × (r.value ≡ clip n)
unfolding list_shown one_counted one_refused
list_answered (Ok n) r e z = (n, refl, ap (λ (o : One). o.value) e)
list_answered (Err x) r e z = not_zero x (sym (ap (λ (o : One). o.refusal) e) ∙ z)

coordinates_answered : (a : Result Coordinates Refusal) (r : Three) → r ≡ coordinates_shown a → r.refusal ≡ 0 → a ≡ Ok (coordinates_of r)
unfolding coordinates_shown three_refused
coordinates_answered (Ok c) r e z = ap (λ (s : Three). Ok (coordinates_of s)) (sym e)
coordinates_answered (Err x) r e z = not_zero x (sym (ap (λ (s : Three). s.refusal) e) ∙ z)

pub c_sun_list_promised : (planet earth : List ℕ) (t0 minutes keep_out : ℤ) (before : List ℕ) (a : Result ℕ Refusal) (r : One) (after : List ℕ)
    → SunListPromised planet earth (instant t0) minutes keep_out before a after → r ≡ list_shown a
    → CSunListPromised planet earth t0 minutes keep_out before r after
c_sun_list_promised planet earth t0 minutes keep_out before a r after p e = record {
  answer = e ∙ ap list_shown p.answer;
  output = p.output;
  demand = λ z.
      let s = list_answered a r e z in
      let few = p.few s.0 s.1 in
      record { count = s.0; shown = s.2 ∙ sym (clip_small s.0 (omega arith)); few = few; demand = p.demand s.0 s.1 };
}

pub c_coordinates_promised : (bytes : List ℕ) (t : ℤ) (a : Result Coordinates Refusal) (r : Three) → CoordinatesPromised bytes (instant t) a
    → r ≡ coordinates_shown a → CCoordinatesPromised bytes t r
c_coordinates_promised bytes t a r p e = record {
  answer = e ∙ ap coordinates_shown p.answer;
  near_series = λ z. p.near_series (coordinates_of r) (coordinates_answered a r e z);
}
