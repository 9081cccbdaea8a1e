-- The reader that only judges, beside the one that writes: the room alone counts, and there is enough of it. Assumes nothing.
use mathlib.Core.Path.{◌≡◌, refl, sym, ap, ◌∙◌}
use mathlib.Core.List.{List, [], ◌∷◌}
use mathlib.Core.Logic.{◌⊎◌, inl, inr}
use Prim.Native.Nat.{ℕ, ◌+◌, ◌≤◌}
use native.Mathlib.Omega.{arith}
use borrow.Author.Tests.{leb-true, ne_eqb, le-leb}
use lib.Dec.{leb, eqb}
use lib.ListN.{length, replicate, length-replicate}
use lib.Seq.{length-sets}
use Rattle.units.specs.declared.Refusal.{Refusal}
use Rattle.units.specs.declared.Refusal.TheVariants.{NoRoom}
use Rattle.units.specs.Refusals.{no_room, number, of_number}
use Rattle.limits.specs.declared.Tally.{Tally}
use Rattle.packed_promises.specs.Bounds.{packed_limit}
use Rattle.series_lines.specs.declared.Reader.{Reader}
use Rattle.series_lines.specs.declared.Outcome.{Outcome}
use Rattle.series_lines.specs.declared.Outcome.TheVariants.{More, Accepted, Refused}
use Rattle.series_lines.specs.Grammar.{AnyLine, a_count, a_term, any_bytes}
use Rattle.series_lines.specs.Judge.{Verdict}
use Rattle.series_lines.specs.Reader.{accepted, last_offset, fits, wrote, judged, put_bytes, wrote_out, uncounted, told}
use Rattle.text.specs.Reader.{begun, verdict, step, step_out, run, ended, whole}
use Rattle.text.specs.Judge.{judge_step, judge}
use Rattle.integers.proofs.Tests.{by_cases}
use Rattle.text_promises.specs.Decided.{Stands, Refuses, after_end, bad_byte, early_feed, count_over, number_over, total_over, too_coarse}
use Rattle.text_promises.specs.Decided.{with_count, with_term, no_room_count, no_room_term, Answers, accepts, refuses, ends_early}
use Rattle.text_promises.proofs.Acceptance.{not_accepted}
use Rattle.text_promises.proofs.Beginnings.{packed_length}
use Rattle.text_promises.proofs.Decided.{decided}
use Rattle.text_promises.proofs.Theorems.{ended_stops}
use Rattle.text_promises.proofs.Room.{beginning_short}

-- ---- The output counts by its length alone.

put_length : (bytes : List ℕ) (written : ℕ) (out : List ℕ) → length (put_bytes bytes written out) ≡ length out
unfolding put_bytes
put_length bytes written out = by_cases (fits bytes written out) (λ p. rw p (length-sets out written bytes)) (λ p. rw p)

wrote_length : (r : Reader) (out : List ℕ) (v : Verdict) → length (wrote_out r out v) ≡ length out
unfolding wrote_out
wrote_length r out v = by_cases (eqb v.refusal 0) (λ p. rw p (put_length v.bytes r.written out)) (λ p. rw p)

step_length : (r : Reader) (out : List ℕ) (byte : ℕ) → length (step_out r out byte) ≡ length out
unfolding step_out
step_length r out byte =
    by_cases (eqb r.status 0)
    (λ p. by_cases (uncounted r) (λ q. rw (p, q))
    (λ q. by_cases (eqb r.line.spot 30) (λ u. rw (p, q, u))
    (λ u. by_cases (eqb byte 10) (λ v. rw (p, q, u, v) (wrote_length r out (verdict r))) (λ v. rw (p, q, u, v)))))
    (λ p. rw p)

same_step : (r : Reader) (out : List ℕ) (byte : ℕ) → step r out byte ≡ judge_step (length out) r byte
unfolding step judge_step wrote judged fits
same_step r out byte = refl

pub same_run : (text : List ℕ) (r : Reader) (out : List ℕ) → (run r out text).reader ≡ judge (length out) r text
unfolding run judge
same_run [] r out = refl
same_run (x ∷ xs) r out =
    same_run xs (step r out x) (step_out r out x)
    ∙ ap (λ (n : ℕ). judge n (step r out x) xs) (step_length r out x)
    ∙ ap (λ (q : Reader). judge (length out) q xs) (same_step r out x)

-- ---- Less room gives the same, or no room.

judge_stays : (text : List ℕ) (room : ℕ) (r : Reader) → (r.status ≡ 0 → ⊥) → judge room r text ≡ r
judge_stays [] room r h = unfold judge in refl
judge_stays (x ∷ xs) room r h = first ∙ ap (λ (q : Reader). judge room q xs) stopped ∙ judge_stays xs room r h
  where
    first : judge room r (x ∷ xs) ≡ judge room (judge_step room r x) xs
    first = unfold judge in refl

    stopped : judge_step room r x ≡ r
    stopped = unfold judge_step in rw (ne_eqb r.status 0 h)

-- The same, or no room in the first.
abbrev Alike : Reader → Reader → Type 0
Alike q r = (q ≡ r) ⊎ (q.status ≡ no_room)

module _ (room more : ℕ) (h : room ≤ more) where
  judged_alike : (r : Reader) (v : Verdict) → Alike (judged room r v) (judged more r v)
  unfolding judged
  judged_alike r v =
      let n = r.written + length v.bytes in
      by_cases (eqb v.refusal 0)
      (λ p. by_cases (leb n room)
      (λ q. let l = leb-true n room q in inl (rw (p, q, le-leb n more (omega arith))))
      (λ q. inr (rw (p, q))))
      (λ p. inl (rw p))

  step_alike : (r : Reader) (byte : ℕ) → Alike (judge_step room r byte) (judge_step more r byte)
  unfolding judge_step
  step_alike r byte =
      by_cases (eqb r.status 0)
      (λ p. by_cases (uncounted r) (λ q. inl (rw (p, q)))
      (λ q. by_cases (eqb r.line.spot 30) (λ u. inl (rw (p, q, u)))
      (λ u. by_cases (eqb byte 10) (λ v. rw (p, q, u, v) (judged_alike r (verdict r))) (λ v. inl (rw (p, q, u, v))))))
      (λ p. inl (rw p))

  judge_alike : (text : List ℕ) (r : Reader) → Alike (judge room r text) (judge more r text)
  unfolding judge
  judge_alike [] r = inl refl
  judge_alike (x ∷ xs) r = go (step_alike r x) (judge_alike xs (judge_step more r x))
    where
      go : Alike (judge_step room r x) (judge_step more r x) → Alike (judge room (judge_step more r x) xs) (judge more (judge_step more r x) xs)
          → Alike (judge room (judge_step room r x) xs) (judge more (judge_step more r x) xs)
      go (inl e) k = rw e k
      go (inr e) k =
          inr (ap (λ (q : Reader). q.status) (judge_stays xs room (judge_step room r x) (λ z. omega (arith, e, z))) ∙ e)

pub narrower : (room more : ℕ) (text : List ℕ) → room ≤ more
    → (judge room begun text ≡ judge more begun text) ⊎ ((judge room begun text).status ≡ no_room)
narrower room more text h = judge_alike room more h text begun

pub told_no_room : (r : Reader) → r.status ≡ no_room → told (ended r) ≡ Refused (NoRoom r.place)
unfolding ended told of_number
told_no_room r e = rw e

-- After the end an answer stands.
pub never_open : (r : Reader) (n : ℕ) → told (ended r) ≡ More n → ⊥
unfolding told
never_open r n e =
    let z = ne_eqb (ended r).status 0 (ended_stops r) in
    by_cases (eqb (ended r).status accepted) (λ p. taken (ended r).written (rw (z, p) at e)) (λ p. not (rw (z, p) at e))
  where
    taken : (w : ℕ) → Accepted w ≡ More n → ⊥
    taken w e = let z : ◌≡◌ {A = ℕ} 0 1 = cc in omega arith

    not : {f : Refusal} → Refused f ≡ More n → ⊥
    not e = let z : ◌≡◌ {A = ℕ} 0 1 = cc in omega arith

-- ---- With room for the longest series there is always room.

inner : {q r : Refusal} → Refused q ≡ Refused r → q ≡ r
inner e = cc

module _ (text out : List ℕ) (p : ℕ) (enough : packed_limit ≤ length out) where
  other : {r : Refusal} → r ≡ NoRoom p → (number r ≡ no_room → ⊥) → ⊥
  other e h = h (ap number e)

  fits_all : {ls : List AnyLine} {k n : ℕ} {s : Tally} {rest : List ℕ} {room : ℕ} {r : Refusal} → Stands text out ls k n s rest room
      → Refuses (length (any_bytes ls)) s room k n rest r → r ≡ NoRoom p → ⊥
  fits_all h (after_end b more) e = other e (λ q. omega (arith, q))
  fits_all h (bad_byte xs b more a i j k) e = other e (λ q. omega (arith, q))
  fits_all h (early_feed xs more a i j) e = other e (λ q. omega (arith, q))
  fits_all h (count_over l more a g i) e = other e (λ q. omega (arith, q))
  fits_all h (number_over l more g i) e = other e (λ q. omega (arith, q))
  fits_all h (total_over l more g i j) e = other e (λ q. omega (arith, q))
  fits_all h (too_coarse l more g i j k) e = other e (λ q. omega (arith, q))
  fits_all {ls = ls} h (no_room_count l more a g i j) e =
      omega (arith, j, h.fits, packed_length ls (a_count l), beginning_short (with_count l h.beginning a g i), enough)
  fits_all {ls = ls} h (no_room_term l more g i j) e =
      omega (arith, j, h.fits, packed_length ls (a_term l), beginning_short (with_term l h.beginning g i), enough)

  has_room : length text ≤ last_offset → told (whole text out).reader ≡ Refused (NoRoom p) → ⊥
  has_room c = go (decided text out c)
    where
      go : {o : Outcome} {left : List ℕ} → Answers text out o left → o ≡ Refused (NoRoom p) → ⊥
      go (accepts h) e = not_accepted (sym e)
      go (refuses h r) e = fits_all h r (inner e)
      go (ends_early h a b) e = other (inner e) (λ q. omega (arith, q))

pub never_full : (room : ℕ) (text : List ℕ) (p : ℕ) → packed_limit ≤ room → length text ≤ last_offset
    → told (ended (judge room begun text)) ≡ Refused (NoRoom p) → ⊥
never_full room text p h c e =
    let out : List ℕ = replicate room 0 in
    let n = length-replicate {A = ℕ} room 0 in
    has_room text out p (omega (arith, h, n)) c
    (ap (λ (q : Reader). told (ended q)) (same_run text begun out ∙ ap (λ (i : ℕ). judge i begun text) n) ∙ e)

-- So all that much room gives the same.
pub enough : (room : ℕ) (text : List ℕ) → packed_limit ≤ room → length text ≤ last_offset → judge packed_limit begun text ≡ judge room begun text
enough room text h c = go (narrower packed_limit room text h)
  where
    go : (judge packed_limit begun text ≡ judge room begun text) ⊎ ((judge packed_limit begun text).status ≡ no_room)
        → judge packed_limit begun text ≡ judge room begun text
    go (inl e) = e
    go (inr e) = absurd (never_full packed_limit text _ (omega arith) c (told_no_room (judge packed_limit begun text) e))
