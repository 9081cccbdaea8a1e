-- What each way through the shared steps gives, over plain values. Assumes nothing.
use mathlib.Core.Path.{◌≡◌, refl, ◌∙◌}
use mathlib.Core.Bool.{Bool, true, false, cond}
use mathlib.Core.List.{List}
use Prim.Native.Nat.{ℕ, ◌+◌}
use native.Mathlib.Omega.{arith}
use borrow.Author.Tests.{eq-eqb, ne_eqb}
use lib.Dec.{eqb}
use lib.ListN.{length}
use Rattle.units.specs.Refusals.{no_room, fault_number}
use Rattle.units.specs.declared.Fault.{Fault}
use Rattle.units.specs.declared.Fault.TheVariants.{BadByte as byte_fault, OverLimit as limit_fault, TotalOverLimit as total_fault}
use Rattle.units.specs.declared.Fault.TheVariants.{TooCoarse as coarse_fault, NoRoom as room_fault, EndedEarly as end_fault}
use Rattle.units.specs.declared.Fault.TheVariants.{ByteAfterEnd as after_fault, BadHeading as heading_fault, BadNumber as number_fault}
use Rattle.std.proofs.Common.{Ok, Err}
use Rattle.packed_numbers.specs.declared.NoRoom.{NoRoom}
use Rattle.packed_numbers.specs.Machine.Answers.{put_or}
use Rattle.series_lines.specs.declared.Reader.{Reader}
use Rattle.series_lines.specs.Judge.{Verdict}
use Rattle.series_lines.specs.Machine.Modes.{has_room, kept_out, line_ended, line_left}
use Rattle.series_lines.specs.Reader.{last_offset, stopped, advanced, fits, put_bytes, wrote, wrote_out, judged}

-- What an answer of the writer says.
pub no_fit : (t : Bool) (a b : ℕ) (e : NoRoom) → Err e ≡ put_or a b t → t ≡ false
no_fit true a b e f = let z : ◌≡◌ {A = ℕ} 0 1 = cc in absurd (omega arith)
no_fit false a b e f = refl

pub fit : (t : Bool) (a b n : ℕ) → Ok n ≡ put_or a b t → (t ≡ true) × (n ≡ a)
fit true a b n e = (refl, cc)
fit false a b n e = let z : ◌≡◌ {A = ℕ} 0 1 = cc in absurd (omega arith)

-- No fault has the number 0.
pub fault_some : (fault : Fault) → fault_number fault ≡ 0 → ⊥
fault_some byte_fault e = omega (arith, e)
fault_some limit_fault e = omega (arith, e)
fault_some total_fault e = omega (arith, e)
fault_some coarse_fault e = omega (arith, e)
fault_some room_fault e = omega (arith, e)
fault_some end_fault e = omega (arith, e)
fault_some after_fault e = omega (arith, e)
fault_some heading_fault e = omega (arith, e)
fault_some number_fault e = omega (arith, e)

-- A line that was judged, by a call that writes or one that only judges.
module _ (writes : Bool) (r s : Reader) (out : List ℕ) (v : Verdict) where
  pub line_refused : (n : ℕ) → n ≡ v.refusal → (n ≡ 0 → ⊥) → s ≡ stopped r n → (s ≡ line_ended writes r out v) × (out ≡ line_left writes r out v)
  unfolding line_ended line_left
  line_refused n e h p = let t = ne_eqb v.refusal 0 (λ q. h (e ∙ q)) in (rw (t, p, e), rw t)

  module _ (good : v.refusal ≡ 0) (after : List ℕ) (m : ℕ)
      (po : after ≡ kept_out writes v.bytes r.written out) where
    pub line_full : (e : NoRoom) → Err e ≡ put_or (r.written + length v.bytes) m (has_room writes v.bytes r.written out) → s ≡ stopped r no_room
        → (s ≡ line_ended writes r out v) × (after ≡ line_left writes r out v)
    unfolding line_ended line_left
    line_full q f e =
        let t = no_fit (has_room writes v.bytes r.written out) _ _ q f in (
          rw (eq-eqb v.refusal 0 good, t, e),
          rw (eq-eqb v.refusal 0 good) po,
        )

    pub line_next : (n : ℕ) → Ok n ≡ put_or (r.written + length v.bytes) m (has_room writes v.bytes r.written out)
        → s ≡ advanced r n v.blocks v.left v.tally → (s ≡ line_ended writes r out v) × (after ≡ line_left writes r out v)
    unfolding line_ended line_left
    line_next n f e =
        let t = fit (has_room writes v.bytes r.written out) _ _ n f in (
          rw (eq-eqb v.refusal 0 good, t.0, e, t.1),
          rw (eq-eqb v.refusal 0 good) po,
        )

-- A call that writes.
pub line_wrote : (r : Reader) (out : List ℕ) (v : Verdict) → (line_ended true r out v ≡ wrote r out v) × (line_left true r out v ≡ wrote_out r out v)
unfolding line_ended line_left has_room kept_out wrote wrote_out
line_wrote r out v = (refl, refl)

-- One that only judges.
pub line_judged : (r : Reader) (out : List ℕ) (v : Verdict) → (line_ended false r out v ≡ judged last_offset r v) × (line_left false r out v ≡ out)
unfolding line_ended line_left has_room kept_out judged
line_judged r out v = (refl, same (eqb v.refusal 0))
  where
    same : (t : Bool) → cond t out out ≡ out
    same true = refl
    same false = refl

module _ (r s : Reader) (out : List ℕ) (v : Verdict) where
  writing : {after : List ℕ} → (s ≡ line_ended true r out v) × (after ≡ line_left true r out v) → (s ≡ wrote r out v) × (after ≡ wrote_out r out v)
  writing e = let w = line_wrote r out v in (e.0 ∙ w.0, e.1 ∙ w.1)

  pub wrote_refused : (n : ℕ) → n ≡ v.refusal → (n ≡ 0 → ⊥) → s ≡ stopped r n → (s ≡ wrote r out v) × (out ≡ wrote_out r out v)
  wrote_refused n e h p = writing (line_refused true r s out v n e h p)

  module _ (good : v.refusal ≡ 0) (after : List ℕ) (m : ℕ)
      (po : after ≡ put_bytes v.bytes r.written out) where
    pub wrote_full : (e : NoRoom) → Err e ≡ put_or (r.written + length v.bytes) m (fits v.bytes r.written out) → s ≡ stopped r no_room
        → (s ≡ wrote r out v) × (after ≡ wrote_out r out v)
    unfolding has_room kept_out
    wrote_full q f e = writing (line_full true r s out v good after m po q f e)

    pub wrote_next : (n : ℕ) → Ok n ≡ put_or (r.written + length v.bytes) m (fits v.bytes r.written out)
        → s ≡ advanced r n v.blocks v.left v.tally → (s ≡ wrote r out v) × (after ≡ wrote_out r out v)
    unfolding has_room kept_out
    wrote_next n f e = writing (line_next true r s out v good after m po n f e)
