-- The reader of published files and the reader of series texts agree over every file of whole records in order and the text that is cut out of
-- it by hand. Assumes nothing.
use mathlib.Core.Path.{◌≡◌, refl, sym, ap, ◌∙◌, subst}
use mathlib.Core.List.{List, [], ◌++◌, append-nil}
use Prim.Native.Nat.{ℕ, ◌+◌, ◌-◌, ◌≤◌}
use native.Mathlib.Omega.{arith}
use lib.ListN.{length}
use lib.Seq.{sets}
use Rattle.units.specs.Units.{block_count}
use Rattle.units.specs.declared.Refusal.TheVariants.{NoRoom}
use Rattle.limits.specs.declared.Tally.{Tally}
use Rattle.series_lines.specs.declared.Outcome.{Outcome}
use Rattle.series_lines.specs.declared.Outcome.TheVariants.{Accepted, Refused}
use Rattle.series_lines.specs.Grammar.{AnyLine, any_bytes, any_packed}
use Rattle.series_lines.specs.Reader.{last_offset, told}
use Rattle.series_lines.specs.Calls.{Run, joined}
use Rattle.published_headings.specs.Judge.{skipped}
use Rattle.published.specs.declared.Published.{Published}
use Rattle.published.specs.Reader as published
use Rattle.text.specs.Reader.{whole}
use Rattle.text_promises.specs.Decided as text
use Rattle.text_promises.proofs.Acceptance.{not_accepted}
use Rattle.text_promises.proofs.Decided as text_decided
use Rattle.published_promises.specs.HandCut.{AnyRecord, file_bytes}
use Rattle.published_promises.specs.HandCut.{zero_lines, cut_records, blocks_of, cut_text}
use Rattle.published_promises.specs.Decided.{Beginning, empty, with_heading, with_record, packed_so_far}
use Rattle.published_promises.specs.Decided.{Stands}
use Rattle.published_promises.specs.Decided.{Answers, accepts, no_room_at_end, refuses, ends_early}
use Rattle.published_promises.specs.SameAsCut.{Ordered, none, next_heading, next_record}
use Rattle.published_promises.specs.SameAsCut.{InZeroLines, Agree, both_accept, both_refuse, over_and_full, both_full}
use Rattle.published_promises.specs.SameAsCut.{BothAgree, BothAgreeCut, AcceptedAsCut}
use Rattle.published_promises.proofs.Judged.{packed_append}
use Rattle.published_promises.proofs.Decided.{answers, decided}
use Rattle.published_promises.proofs.Theorems.{any_cutting}
use Rattle.published_promises.proofs.Acceptance.{accepted_counted}
use Rattle.published_promises.proofs.CutLines.{packed_grow, ordered_blocks}
use Rattle.published_promises.proofs.CutLines.{ordered_few, cut_counted}
use Rattle.published_promises.proofs.CutLines.{text_later, Zeros, with_room, without, zeros}
use Rattle.published_promises.proofs.BothWalk.{Stopped, Walk, on, off, walk}

-- ---- With the end.

-- The answers to both, and that they agree.
record Both (rs : List AnyRecord) (out : List ℕ) : Type 0 where
  file : Outcome
  file_left : List ℕ
  file_answers : Answers (file_bytes rs) out file file_left
  cut : Outcome
  cut_left : List ℕ
  cut_answers : text.Answers (cut_text rs) out cut cut_left
  agrees : Agree rs out file file_left cut cut_left

both_stopped : (rs : List AnyRecord) (out : List ℕ) → Stopped out rs → Both rs out
both_stopped rs out h =
    let zs = zero_lines (block_count - blocks_of 0 rs) in
    record {
      file = Refused h.file;
      file_left = h.file_left;
      file_answers = subst (λ (y : List ℕ). Answers y out (Refused h.file) h.file_left) (append-nil (file_bytes rs)) (h.file_halts []);
      cut = Refused h.cut;
      cut_left = h.cut_left;
      cut_answers =
          subst (λ (y : List ℕ). text.Answers y out (Refused h.cut) h.cut_left) (append-nil (cut_text rs))
          (text_later out (cut_records 0 rs) zs h.cut h.cut_left h.cut_halts []);
      agrees =
          subst (λ (qs : List AnyRecord). Agree qs out (Refused h.file) h.file_left (Refused h.cut) h.cut_left) (append-nil rs)
          (h.agrees []);
    }

-- After a good beginning of both: the counts of the blocks that never came have room, or not.
module _ (rs : List AnyRecord) (out : List ℕ) (k m : ℕ) (s : Tally) (b : Beginning rs k 0 m s) (fit : length (packed_so_far rs) ≤ length out) where
  abbrev all_lines : List AnyLine
  all_lines = cut_records 0 rs ++ zero_lines (block_count - k)

  abbrev left_over : ℕ
  left_over = length out - length (packed_so_far rs)

  stands : Stands (file_bytes rs) out rs k 0 m s [] left_over
  stands = record { beginning = b; is = sym (append-nil (file_bytes rs)); fits = omega arith }

  both_end : blocks_of 0 rs ≡ k → k ≤ block_count
      → Zeros out (cut_records 0 rs) all_lines (k + (block_count - k)) (skipped k (block_count - k) s) → Both rs out
  both_end e few (with_room d r) =
      let p = packed_append (cut_records 0 rs) (zero_lines (block_count - k)) in
      let eighteen : k + (block_count - k) ≡ block_count = omega arith in
      let lines = ap (λ (j : ℕ). any_bytes (cut_records 0 rs ++ zero_lines (block_count - j))) e in
      let w : length (any_packed all_lines) + (length out - length (any_packed all_lines)) ≡ length out = omega arith in
      let standing : text.Stands (cut_text rs) out all_lines block_count 0 (skipped k (block_count - k) s) [] (length out - length (any_packed all_lines)) =
      record {
        beginning = subst (λ (j : ℕ). text.Beginning all_lines j 0 (skipped k (block_count - k) s)) eighteen d;
        is = lines ∙ sym (append-nil (any_bytes all_lines));
        fits = w;
      } in
      record {
        file = Accepted (length (any_packed all_lines));
        file_left = sets out 0 (any_packed all_lines);
        file_answers = rw p (accepts stands (omega (arith, r, packed_grow (cut_records 0 rs) (zero_lines (block_count - k)))));
        cut = Accepted (length (any_packed all_lines));
        cut_left = sets out 0 (any_packed all_lines);
        cut_answers = text.accepts standing;
        agrees = both_accept _ _;
      }
  both_end e few (without place left low high f t) =
      let z = block_count - k in
      let lines = ap (λ (j : ℕ). cut_records 0 rs ++ zero_lines (block_count - j)) e in
      record {
        file = Refused (NoRoom (length (file_bytes rs)));
        file_left = sets out 0 (packed_so_far rs);
        file_answers = no_room_at_end stands (omega (arith, f, packed_grow (cut_records 0 rs) (zero_lines z)));
        cut = Refused (NoRoom place);
        cut_left = left;
        cut_answers =
            subst (λ (y : List ℕ). text.Answers y out (Refused (NoRoom place)) left)
            (append-nil (any_bytes all_lines) ∙ ap any_bytes (sym lines)) (t []);
        agrees =
            both_full place (subst (λ (j : ℕ). InZeroLines rs (block_count - j) out place) (sym e) (record { after = low; inside = high; full = f })) _ left;
      }

both : {rs : List AnyRecord} {k m : ℕ} → Ordered rs k 0 m → (out : List ℕ) → Both rs out
both {rs} {k} {m} o out = go (walk o out)
  where
    go : Walk out rs k 0 m → Both rs out
    go (off h) = both_stopped rs out h
    go (on s b c f) =
        let few = ordered_few o in
        let i : k + (block_count - k) ≤ block_count = omega (arith, few) in
        both_end rs out k m s b f (ordered_blocks o) few (zeros (block_count - k) out (cut_records 0 rs) k s c i f)

-- A beginning is in order.
in_order_of : {rs : List AnyRecord} {k n m : ℕ} {s : Tally} → Beginning rs k n m s → Ordered rs k n m
in_order_of empty = none
in_order_of (with_heading h b g i f) = next_heading h (in_order_of b) g i
in_order_of (with_record t b g i f) = next_record t (in_order_of b) g i

-- Where they agree, one accepts exactly when the other does, and both leave the same.
module _ {rs : List AnyRecord} {out : List ℕ} {n : ℕ} where
  file_accepts : {o p : Outcome} {left cut_left : List ℕ} → Agree rs out o left p cut_left → o ≡ Accepted n → (p ≡ Accepted n) × (cut_left ≡ left)
  file_accepts (both_accept i left) e = (e, refl)
  file_accepts (both_refuse before after r x d place y z left cut_left) e = absurd (not_accepted e)
  file_accepts (over_and_full before after h x place y left cut_left) e = absurd (not_accepted e)
  file_accepts (both_full place x left cut_left) e = absurd (not_accepted e)

  cut_accepts : {o p : Outcome} {left cut_left : List ℕ} → Agree rs out o left p cut_left → p ≡ Accepted n → (o ≡ Accepted n) × (left ≡ cut_left)
  cut_accepts (both_accept i left) e = (e, refl)
  cut_accepts (both_refuse before after r x d place y z left cut_left) e = absurd (not_accepted e)
  cut_accepts (over_and_full before after h x place y left cut_left) e = absurd (not_accepted e)
  cut_accepts (both_full place x left cut_left) e = absurd (not_accepted e)

-- ---- The promises.

-- The two readers agree over every file of whole records in order that can be counted, and the text that is cut out of it by hand.
pub agree : {rs : List AnyRecord} {k m : ℕ} → Ordered rs k 0 m → length (file_bytes rs) ≤ last_offset → (out : List ℕ) → BothAgree rs out
agree {rs} o c out =
    let h = both o out in
    let p = answers (file_bytes rs) out c h.file_answers in
    let q = text_decided.answers (cut_text rs) out (cut_counted o last_offset (omega arith) c) h.cut_answers in
    rw (p.0, p.1, q.0, q.1) h.agrees

-- However the file is cut into calls.
pub agree_cut : {rs : List AnyRecord} {k m : ℕ} → Ordered rs k 0 m → length (file_bytes rs) ≤ last_offset → (out : List ℕ)
    → (ps : List (List ℕ)) → joined ps ≡ file_bytes rs → BothAgreeCut rs out ps
agree_cut {rs} o c out ps e =
    subst (λ (x : Run Published). Agree rs out (published.told x.reader) x.out (told (whole (cut_text rs) out).reader) (whole (cut_text rs) out).out)
    (sym (any_cutting (file_bytes rs) out ps e)) (agree o c out)

-- A file that is accepted is such records, and the text that is cut out of them is accepted with the same packed bytes.
pub accepted_cut : (file out : List ℕ) (n : ℕ) → published.told (published.whole file out).reader ≡ Accepted n
    → AcceptedAsCut file out n (published.whole file out).out
accepted_cut file out n e = go (decided file out (accepted_counted file out n e)) e
  where
    go : {o : Outcome} {left : List ℕ} → Answers file out o left → o ≡ Accepted n → AcceptedAsCut file out n (published.whole file out).out
    go (accepts {rs} {k} {m} h r) z =
        let o = in_order_of h.beginning in
        let i : file ≡ file_bytes rs = h.is ∙ append-nil (file_bytes rs) in
        let a = file_accepts (agree o (subst (λ (y : List ℕ). length y ≤ last_offset) i (accepted_counted file out n e)) out)
        (ap (λ (y : List ℕ). published.told (published.whole y out).reader) (sym i) ∙ e) in
        record {
          rs = rs;
          k = k;
          m = m;
          ordered = o;
          is = i;
          accepted = a.0;
          same = a.1 ∙ ap (λ (y : List ℕ). (published.whole y out).out) (sym i);
        }
    go (no_room_at_end h r) z = absurd (not_accepted z)
    go (refuses h r) z = absurd (not_accepted z)
    go (ends_early h a b x) z = absurd (not_accepted z)

-- However it is cut into calls.
pub accepted_cut_calls : (file out : List ℕ) (n : ℕ) (ps : List (List ℕ)) → joined ps ≡ file
    → published.told (published.end_of (published.calls published.begun_file out ps)).reader ≡ Accepted n
    → AcceptedAsCut file out n (published.end_of (published.calls published.begun_file out ps)).out
accepted_cut_calls file out n ps e =
    subst (λ (x : Run Published). published.told x.reader ≡ Accepted n → AcceptedAsCut file out n x.out) (sym (any_cutting file out ps e))
    (accepted_cut file out n)

-- And where the text that is cut out of records in order is accepted, so is their file.
pub accepted_file : {rs : List AnyRecord} {k m : ℕ} → Ordered rs k 0 m → length (file_bytes rs) ≤ last_offset → (out : List ℕ) (n : ℕ)
    → told (whole (cut_text rs) out).reader ≡ Accepted n
    → (published.told (published.whole (file_bytes rs) out).reader ≡ Accepted n)
    × ((published.whole (file_bytes rs) out).out ≡ (whole (cut_text rs) out).out)
accepted_file o c out n e = cut_accepts (agree o c out) e
