-- What is printed for two series and a time has room, and is what the functions that write it leave in the output. Assumes nothing.
use mathlib.Core.Path.{◌≡◌, refl}
use mathlib.Core.List.{List, ◌++◌}
use Prim.Native.Nat.{ℕ, ◌≤◌}
use native.Mathlib.Omega.{arith}
use lib.ListN.{length}
use Rattle.units.specs.declared.Instant.{Instant}
use Rattle.units.specs.declared.Refusal.{Refusal}
use Rattle.std.specs.Prelude.{Err, IfOk, Ok, Result}
use Rattle.refusal_words.specs.Words.{refusal_text}
use Rattle.refusal_words.proofs.WrittenWords.{refusal_length}
use Rattle.place.specs.Place.{place_answer}
use Rattle.place.specs.declared.Equatorial.{Equatorial}
use Rattle.position_lines.specs.Lines.{place_text, place_most}
use Rattle.position_lines.specs.Position.{answer_text, position_text}
use Rattle.position_lines.proofs.WrittenLines.{place_length}

-- ---- lengths
answer_length : (a : Result Equatorial Refusal) → length (answer_text a) ≤ place_most
unfolding answer_text
answer_length (Ok p) = place_length p
answer_length (Err r) = omega (arith, refusal_length r)

pub position_length : (planet earth : List ℕ) (when : Result Instant Refusal) → length (position_text planet earth when) ≤ place_most
unfolding position_text
position_length planet earth (Ok t) = answer_length (place_answer planet earth t)
position_length planet earth (Err r) = omega (arith, refusal_length r)

-- ---- what is written
module _ (old new : List ℕ) where
  pub place_told : (a : Result Equatorial Refusal) (x : List ℕ) (p : Equatorial) → answer_text a ≡ x → a ≡ Ok p → new ≡ old ++ place_text p → new ≡ old ++ x
  unfolding answer_text
  place_told a x p e f h = rw (← e, f) h

  pub refusal_told : (a : Result Equatorial Refusal) (x : List ℕ) (r : Refusal) → answer_text a ≡ x → a ≡ Err r → new ≡ old ++ refusal_text r → new ≡ old ++ x
  unfolding answer_text
  refusal_told a x r e f h = rw (← e, f) h

-- ---- the place at an instant, and the refusal of one
module _ (planet earth : List ℕ) (when : Result Instant Refusal) where
  pub at_instant : (t : Instant) (a : Result Equatorial Refusal) → when ≡ Ok t → a ≡ place_answer planet earth t
      → answer_text a ≡ position_text planet earth when
  unfolding position_text
  at_instant t a e f = rw (e, f)

  pub no_instant : (r : Refusal) → when ≡ Err r → answer_text (Err r) ≡ position_text planet earth when
  unfolding position_text answer_text
  no_instant r e = rw e

-- ---- what holds of each place that is answered
pub if_answered : (a : Result Equatorial Refusal) (P : Equatorial → Type 0) → ((p : Equatorial) → a ≡ Ok p → P p) → IfOk a P
if_answered (Ok p) P h = h p refl
if_answered (Err r) P h = tt
