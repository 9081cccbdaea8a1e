-- The reader that only judges says of a text what the reader says, whose output may have no room. Assumes nothing.
use mathlib.Core.Path.{◌≡◌, refl, sym, ap, ◌∙◌, subst}
use mathlib.Core.List.{List}
use mathlib.Core.Logic.{◌⊎◌, inl, inr}
use Prim.Native.Nat.{ℕ, ◌≤◌}
use native.Mathlib.Decide.{dec_le}
use native.Mathlib.Omega.{arith}
use lib.ListN.{length, replicate, length-replicate}
use Rattle.units.specs.declared.Refusal.TheVariants.{NoRoom}
use Rattle.units.specs.Refusals.{no_room}
use Rattle.packed_promises.specs.Bounds.{packed_limit}
use Rattle.series_lines.specs.declared.Reader.{Reader}
use Rattle.series_lines.specs.declared.Outcome.{Outcome}
use Rattle.series_lines.specs.declared.Outcome.TheVariants.{More, Accepted, Refused}
use Rattle.series_lines.specs.Reader.{last_offset, told}
use Rattle.text.specs.Reader.{begun, ended, whole}
use Rattle.text.specs.Judge.{judge, judgement}
use Rattle.text_promises.specs.Decided.{Answers}
use Rattle.text_promises.specs.Judged.{Judged}
use Rattle.text_promises.proofs.Acceptance.{not_accepted}
use Rattle.text_promises.proofs.Decided.{decided}
use Rattle.text_promises.proofs.Theorems.{accepted_text, accepted_elsewhere}
use Rattle.text_promises.proofs.Judging.{same_run, narrower, told_no_room, never_full, never_open, enough}

-- What the reader comes to depends on the output's length alone: it is what the judging reader comes to with that much room.
pub same_room : (text out : List ℕ) → (whole text out).reader ≡ ended (judge (length out) begun text)
same_room text out = ap ended (same_run text begun out)

-- With every output that has room for the longest series, the reader's answer is the judgement.
pub with_room : (text out : List ℕ) → length text ≤ last_offset → packed_limit ≤ length out → told (whole text out).reader ≡ judgement text
unfolding judgement
with_room text out c h =
    ap told (same_room text out)
    ∙ ap (λ (r : Reader). told (ended r)) (sym (enough (length out) text (omega (arith, h)) c) ∙ enough last_offset text (omega arith) c)

-- With every other output it is the judgement too, or the refusal for want of room.
pub any_output : (text out : List ℕ) → length text ≤ last_offset
    → (told (whole text out).reader ≡ judgement text) ⊎ ((p : ℕ) × (told (whole text out).reader ≡ Refused (NoRoom p)))
unfolding judgement
any_output text out c = go (dec_le (length out) last_offset)
  where
    say : (r : Reader) → judge (length out) begun text ≡ r → told (whole text out).reader ≡ told (ended r)
    say r e = ap told (same_room text out) ∙ ap (λ (q : Reader). told (ended q)) e

    either : (judge (length out) begun text ≡ judge last_offset begun text) ⊎ ((judge (length out) begun text).status ≡ no_room)
        → (told (whole text out).reader ≡ judgement text) ⊎ ((p : ℕ) × (told (whole text out).reader ≡ Refused (NoRoom p)))
    either (inl e) = inl (say (judge last_offset begun text) e)
    either (inr e) = inr ((judge (length out) begun text).place, say (judge (length out) begun text) refl ∙ told_no_room (judge (length out) begun text) e)

    go : Dec (length out ≤ last_offset)
        → (told (whole text out).reader ≡ judgement text) ⊎ ((p : ℕ) × (told (whole text out).reader ≡ Refused (NoRoom p)))
    go (yes h) = either (narrower (length out) last_offset text h)
    go (no h) = inl (with_room text out c (omega (arith, h)))

-- A text that is judged to be accepted with n bytes is accepted with every output that has n bytes.
pub judgement_accepts : (text out : List ℕ) (n : ℕ) → length text ≤ last_offset → judgement text ≡ Accepted n → n ≤ length out
    → told (whole text out).reader ≡ Accepted n
judgement_accepts text out n c e h =
    let large : List ℕ = replicate packed_limit 0 in
    let l : packed_limit ≤ length large = omega (arith, length-replicate {A = ℕ} packed_limit 0) in
    (accepted_elsewhere text large out n (with_room text large c l ∙ e) (omega (arith, h))).0

-- And one that is accepted with some output is judged so.
pub accepts_judgement : (text out : List ℕ) (n : ℕ) → told (whole text out).reader ≡ Accepted n → judgement text ≡ Accepted n
accepts_judgement text out n e = go (any_output text out (accepted_text text out n e).counted)
  where
    go : (told (whole text out).reader ≡ judgement text) ⊎ ((p : ℕ) × (told (whole text out).reader ≡ Refused (NoRoom p)))
        → judgement text ≡ Accepted n
    go (inl q) = sym q ∙ e
    go (inr q) = absurd (not_accepted (sym q.1 ∙ e))

-- The judgement never wants for room.
pub never_seven : (text : List ℕ) (p : ℕ) → length text ≤ last_offset → judgement text ≡ Refused (NoRoom p) → ⊥
unfolding judgement
never_seven text p c e = never_full last_offset text p (omega arith) c e

-- And it is an answer: never that more may come.
pub never_more : (text : List ℕ) (n : ℕ) → judgement text ≡ More n → ⊥
unfolding judgement
never_more text n e = never_open (judge last_offset begun text) n e

-- The judgement is the answer that the grammar and the limits give a text (specs/Decided.antt), for every output with room for the longest series.
pub judged_by_rules : (text out : List ℕ) → length text ≤ last_offset → packed_limit ≤ length out → Answers text out (judgement text) (whole text out).out
judged_by_rules text out c h = subst (λ (o : Outcome). Answers text out o (whole text out).out) (with_room text out c h) (decided text out c)

-- All of this, of every text that can be counted.
pub judged : (text : List ℕ) → length text ≤ last_offset → Judged text
judged text c = record {
  with_room = λ out h. with_room text out c (omega (arith, h));
  any_output = λ out. any_output text out c;
  accepts = λ out n e h. judgement_accepts text out n c e (omega (arith, h));
  accepted = accepts_judgement text;
  never_seven = λ p. never_seven text p c;
  never_more = never_more text;
  by_rules = λ out. judged_by_rules text out c;
}
