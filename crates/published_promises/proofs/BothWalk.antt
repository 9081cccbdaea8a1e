-- The reader of published files and the reader of series texts walk the same records: a good beginning of both, or a refusal of both. Assumes nothing.
use mathlib.Core.Path.{◌≡◌, sym, ap, ◌∙◌, subst}
use mathlib.Core.Bool.{true, false}
use mathlib.Core.List.{List, [], ◌∷◌, ◌++◌, append_assoc}
use mathlib.Core.Logic.{◌⊎◌, inl, inr}
use Prim.Native.Nat.{ℕ, suc, ◌+◌, ◌-◌, ◌≤◌, ◌<◌}
use native.Mathlib.Omega.{arith}
use borrow.Author.Tests.{leb-true, leb-false}
use lib.Dec.{leb}
use lib.ListN.{length}
use lib.Seq.{sets}
use Rattle.units.specs.Units.{block_count}
use Rattle.units.specs.declared.Refusal.{Refusal}
use Rattle.units.specs.declared.Refusal.TheVariants.{OverLimit, NoRoom}
use Rattle.units.specs.Refusals.{over_limit, total_over_limit, no_room, of_number}
use Rattle.units.specs.Refusals as numbers
use Rattle.limits.specs.declared.Tally.{Tally}
use Rattle.limits.specs.Limits.{no_tally, opened, added, factor, count_fits, total_fits, coarse_fits}
use Rattle.series_lines.specs.declared.Outcome.TheVariants.{Refused}
use Rattle.series_lines.specs.Grammar.{feed, size, value, count, count_bytes, term_bytes, GoodTerm, term_of_line, TermInLimits}
use Rattle.series_lines.specs.Grammar.{AnyLine, a_count, a_term, line_bytes, any_bytes, any_packed}
use Rattle.published_records.specs.Layout.{Heading, heading_bytes, GoodHeading, TermRecord, record_bytes, GoodRecord, cut_term}
use Rattle.published_headings.specs.Judge.{in_order, skipped}
use Rattle.integers.proofs.Tests.{by_cases}
use Rattle.text_promises.specs.Decided as text
use Rattle.text_promises.specs.Decided.{NumbersInLimits}
use Rattle.text_promises.proofs.Beginnings.{bytes_length, packed_length}
use Rattle.text_promises.proofs.Decided as text_decided
use Rattle.published_promises.specs.HandCut.{AnyRecord, a_heading, a_record, any_record_bytes, file_bytes, heading_block}
use Rattle.published_promises.specs.HandCut.{zero_lines, cut_records, cut_one, blocks_of}
use Rattle.published_promises.specs.Decided.{Beginning, empty, with_heading, with_record, packed_so_far}
use Rattle.published_promises.specs.Decided.{Refuses, count_over, number_over, total_over, too_coarse, no_room_heading, no_room_record}
use Rattle.published_promises.specs.Decided.{Answers, refuses}
use Rattle.published_promises.specs.SameAsCut.{Ordered, none, next_heading, next_record, OfLimits, over, total, coarse, room}
use Rattle.published_promises.specs.SameAsCut.{InCutOf, InZeroLines, Agree, both_refuse, over_and_full}
use Rattle.published_promises.proofs.Beginnings.{cut_more, in_order_facts, bytes_more as file_more}
use Rattle.published_promises.proofs.CutLines.{bytes_grow, packed_grow, ordered_blocks}
use Rattle.published_promises.proofs.CutLines.{cut_heading, cut_record, record_cut, skipped_fits}
use Rattle.published_promises.proofs.CutLines.{TextStops, text_later, text_stops, Zeros, with_room, without, zeros}

-- ---- A file that is refused, whatever comes after some records.

abbrev FileStops : List ℕ → List AnyRecord → Refusal → List ℕ → Type 0
FileStops out rs f left = (rest : List ℕ) → Answers (file_bytes rs ++ rest) out (Refused f) left

file_later : (out : List ℕ) (rs : List AnyRecord) (r : AnyRecord) (f : Refusal) (left : List ℕ) → FileStops out rs f left
    → FileStops out (rs ++ (r ∷ [])) f left
file_later out rs r f left h rest =
    subst (λ (y : List ℕ). Answers y out (Refused f) left) (sym (file_more rs r rest)) (h (any_record_bytes r ++ (feed ∷ rest)))

-- After a good beginning that fits, by its next record.
file_stops : {rs : List AnyRecord} {k n m : ℕ} {s : Tally} (out : List ℕ) → Beginning rs k n m s → length (packed_so_far rs) ≤ length out
    → (r : AnyRecord) (f : Refusal)
    → ((more : List ℕ) → Refuses (length (file_bytes rs)) s (length out - length (packed_so_far rs)) k n m (any_record_bytes r ++ (feed ∷ more)) f)
    → FileStops out (rs ++ (r ∷ [])) f (sets out 0 (packed_so_far rs))
file_stops {rs} out b h r f q rest =
    let w : length (packed_so_far rs) + (length out - length (packed_so_far rs)) ≡ length out = omega arith in
    refuses (record { beginning = b; is = file_more rs r rest; fits = w }) (q rest)

-- ---- Both readers, record by record.

-- Both have refused, whatever comes after these records.
pub record Stopped (out : List ℕ) (rs : List AnyRecord) : Type 0 where
  pub file : Refusal
  pub file_left : List ℕ
  pub file_halts : FileStops out rs file file_left
  pub cut : Refusal
  pub cut_left : List ℕ
  pub cut_halts : TextStops out (cut_records 0 rs) cut cut_left
  pub agrees : (after : List AnyRecord) → Agree (rs ++ after) out (Refused file) file_left (Refused cut) cut_left

stopped_later : (out : List ℕ) (rs : List AnyRecord) (r : AnyRecord) → Stopped out rs → Stopped out (rs ++ (r ∷ []))
stopped_later out rs r h =
    record {
      file = h.file;
      file_left = h.file_left;
      file_halts = file_later out rs r h.file h.file_left h.file_halts;
      cut = h.cut;
      cut_left = h.cut_left;
      cut_halts =
          subst (λ (ls : List AnyLine). TextStops out ls h.cut h.cut_left) (sym (cut_more 0 rs r))
          (text_later out (cut_records 0 rs) (cut_one (blocks_of 0 rs) r) h.cut h.cut_left h.cut_halts);
      agrees =
          λ after. subst (λ (qs : List AnyRecord). Agree qs out (Refused h.file) h.file_left (Refused h.cut) h.cut_left)
          (sym (append_assoc rs (r ∷ []) after)) (h.agrees (r ∷ after));
    }

-- Where both refuse alike.
alike : (out : List ℕ) (rs : List AnyRecord) (r : AnyRecord) (c place : ℕ) → OfLimits c → InCutOf rs r place → (left cut_left : List ℕ)
    → FileStops out (rs ++ (r ∷ [])) (of_number c (length (file_bytes rs) + length (any_record_bytes r))) left
    → TextStops out (cut_records 0 (rs ++ (r ∷ []))) (of_number c place) cut_left
    → Stopped out (rs ++ (r ∷ []))
alike out rs r c place o i left cut_left f t =
    record {
      file = of_number c (length (file_bytes rs) + length (any_record_bytes r));
      file_left = left;
      file_halts = f;
      cut = of_number c place;
      cut_left = cut_left;
      cut_halts = t;
      agrees = λ after. both_refuse rs after r (append_assoc rs (r ∷ []) after) c place o i left cut_left;
    }

-- Both have come so far, with the same tally and the same packed bytes, or have refused.
pub data Walk (out : List ℕ) (rs : List AnyRecord) (k n m : ℕ) : Type 0 where
  on : (s : Tally) → Beginning rs k n m s → text.Beginning (cut_records 0 rs) k n s → length (packed_so_far rs) ≤ length out → Walk out rs k n m
  off : Stopped out rs → Walk out rs k n m

-- With a term record more.
module _ (out : List ℕ) (rs : List AnyRecord) (k n m : ℕ) (s : Tally) (b : Beginning rs k (suc n) m s)
    (c : text.Beginning (cut_records 0 rs) k (suc n) s) (fit : length (packed_so_far rs) ≤ length out)
    (t : TermRecord) (g : GoodRecord t) (number : count t.number ≡ m + 1) where
  good_line : GoodTerm (cut_term t)
  good_line = record { a = g.a; b = g.b; c = g.c }

  abbrev place_of : ℕ
  place_of = length (any_bytes (cut_records 0 rs)) + length (term_bytes (cut_term t))

  stops_there : (c : ℕ) → OfLimits c
      → ((more : List ℕ) → Refuses (length (file_bytes rs)) s (length out - length (packed_so_far rs)) k (suc n) m (record_bytes t ++ (feed ∷ more))
      (of_number c (length (file_bytes rs) + length (record_bytes t))))
      → ((more : List ℕ) → text.Refuses (length (any_bytes (cut_records 0 rs))) s (length out - length (packed_so_far rs)) k (suc n)
      (term_bytes (cut_term t) ++ (feed ∷ more)) (of_number c place_of))
      → Walk out (rs ++ (a_record t ∷ [])) k n (m + 1)
  unfolding any_record_bytes line_bytes
  stops_there d o f u =
      off (alike out rs (a_record t) d place_of o (record { after = omega arith; inside = omega (arith, record_cut rs t) }) _ _
      (file_stops out b fit (a_record t) _ f)
      (subst (λ (ls : List AnyLine). TextStops out ls (of_number d place_of) (sets out 0 (packed_so_far rs))) (sym (cut_record rs t))
      (text_stops out c fit (a_term (cut_term t)) (of_number d place_of) u)))

  goes_on : TermInLimits (factor (k - 1)) s (cut_term t) → Walk out (rs ++ (a_record t ∷ [])) k n (m + 1)
  unfolding of_number cut_one
  goes_on i =
      let ls = cut_records 0 rs in
      let l = a_term (cut_term t) in
      by_cases (leb (length (any_packed (ls ++ (l ∷ [])))) (length out))
      (λ z. on _ (with_record t b g number i)
      (subst (λ (ms : List AnyLine). text.Beginning ms k n (added (factor (k - 1)) s (term_of_line (cut_term t)))) (sym (cut_record rs t))
      (text.with_term (cut_term t) c good_line i))
      (subst (λ (ms : List AnyLine). length (any_packed ms) ≤ length out) (sym (cut_record rs t)) (leb-true _ _ z)))
      (λ z. let h : length out < length (any_packed (ls ++ (l ∷ []))) = leb-false _ _ z in
      stops_there no_room room
      (λ more. no_room_record t more g number i (omega (arith, h, packed_grow ls (l ∷ []))))
      (λ more. text.no_room_term (cut_term t) more good_line i (omega (arith, h, packed_length ls l))))

  with_term_record : Walk out (rs ++ (a_record t ∷ [])) k n (m + 1)
  unfolding of_number
  with_term_record = go (text_decided.numbers (cut_term t))
    where
      go : NumbersInLimits (cut_term t) ⊎ (NumbersInLimits (cut_term t) → ⊥) → Walk out (rs ++ (a_record t ∷ [])) k n (m + 1)
      go (inr x) = stops_there over_limit over (λ more. number_over t more g number x) (λ more. text.number_over (cut_term t) more good_line x)
      go (inl x) =
          by_cases (total_fits s (value t.a))
          (λ u. by_cases (coarse_fits (factor (k - 1)) s (value t.a) (size t.b) (value t.c))
          (λ v. goes_on (record { from_zero = x.from_zero; a = x.a; b = x.b; c = x.c; total = u; coarse = v }))
          (λ v. stops_there numbers.too_coarse coarse (λ more. too_coarse t more g number x u v)
          (λ more. text.too_coarse (cut_term t) more good_line x u v)))
          (λ u. stops_there total_over_limit total (λ more. total_over t more g number x u) (λ more. text.total_over (cut_term t) more good_line x u))

-- With a heading more: first the lines `0` of the blocks before it, then its count.
module _ (out : List ℕ) (rs : List AnyRecord) (k m : ℕ) (s : Tally) (o : Ordered rs k 0 m) (b : Beginning rs k 0 m s)
    (c : text.Beginning (cut_records 0 rs) k 0 s) (fit : length (packed_so_far rs) ≤ length out)
    (h : Heading) (g : GoodHeading h) (i : in_order k h.version h.coordinate h.power ≡ true) where
  abbrev next : List AnyRecord
  next = rs ++ (a_heading h ∷ [])

  abbrev passed : ℕ
  passed = heading_block h - k

  abbrev filled : List AnyLine
  filled = cut_records 0 rs ++ zero_lines passed

  abbrev since : Tally
  since = skipped k passed s

  abbrev counted : AnyLine
  counted = a_count h.count

  fewer : k < block_count
  fewer = let f = in_order_facts k h.version h.coordinate h.power i in omega (arith, f.later, f.block)

  block : heading_block h < block_count
  block = (in_order_facts k h.version h.coordinate h.power i).block

  up_to : k + passed ≡ heading_block h
  up_to = omega (arith, (in_order_facts k h.version h.coordinate h.power i).later)

  -- The file is refused at this heading.
  file_over : count_fits s (count h.count) ≡ false
      → FileStops out next (of_number over_limit (length (file_bytes rs) + length (heading_bytes h))) (sets out 0 (packed_so_far rs))
  unfolding any_record_bytes of_number
  file_over e = file_stops out b fit (a_heading h) _ (λ more. count_over h more fewer g i e)

  file_full : count_fits s (count h.count) ≡ true → length out < length (any_packed (filled ++ (counted ∷ [])))
      → FileStops out next (of_number no_room (length (file_bytes rs) + length (heading_bytes h))) (sets out 0 (packed_so_far rs))
  unfolding any_record_bytes of_number cut_one
  file_full e f =
      let ls = cut_records 0 rs in
      let zs = zero_lines passed in
      let narrow : length out - length (any_packed ls) < length (any_packed (zs ++ (counted ∷ []))) =
      omega (arith, f, packed_grow filled (counted ∷ []), packed_grow ls zs, packed_grow zs (counted ∷ [])) in
      file_stops out b fit (a_heading h) _ (λ more. no_room_heading h more fewer g i e narrow)

  -- The text is, at its count.
  cut_at : (f : Refusal) (left : List ℕ) → TextStops out (filled ++ (counted ∷ [])) f left → TextStops out (cut_records 0 next) f left
  cut_at f left = subst (λ (ls : List AnyLine). TextStops out ls f left) (sym (cut_heading o h))

  abbrev count_place : ℕ
  count_place = length (any_bytes filled) + length (count_bytes h.count)

  in_count : InCutOf rs (a_heading h) count_place
  unfolding line_bytes
  in_count =
      let e = ap (λ (ls : List AnyLine). length (any_bytes ls)) (cut_heading o h) in
      record {
        after = omega (arith, bytes_grow (cut_records 0 rs) (zero_lines passed));
        inside = omega (arith, e, bytes_length filled counted);
      }

  in_zeros : (place : ℕ) → length (any_bytes (cut_records 0 rs)) ≤ place → place < length (any_bytes filled) → InCutOf rs (a_heading h) place
  in_zeros place low high =
      let e = ap (λ (ls : List AnyLine). length (any_bytes ls)) (cut_heading o h) in
      record { after = low; inside = omega (arith, e, bytes_length filled counted) }

  -- The counts of the blocks before it have room.
  with_counts : text.Beginning filled (heading_block h) 0 since → length (any_packed filled) ≤ length out
      → Walk out next (heading_block h + 1) (count h.count) 0
  unfolding any_record_bytes line_bytes of_number
  with_counts d r =
      let same = skipped_fits passed k s (count h.count) in
      by_cases (count_fits s (count h.count))
      (λ e. by_cases (leb (length (any_packed (filled ++ (counted ∷ [])))) (length out))
      (λ z. on _ (with_heading h b g i e)
      (subst (λ (ls : List AnyLine). text.Beginning ls (heading_block h + 1) (count h.count) (opened (heading_block h) (count h.count) since))
      (sym (cut_heading o h)) (text.with_count h.count d block g.count (same ∙ e)))
      (subst (λ (ls : List AnyLine). length (any_packed ls) ≤ length out) (sym (cut_heading o h)) (leb-true _ _ z)))
      (λ z. let f : length out < length (any_packed (filled ++ (counted ∷ []))) = leb-false _ _ z in
      off (alike out rs (a_heading h) no_room count_place room in_count _ _ (file_full e f)
      (cut_at _ _ (text_stops out d r counted (of_number no_room count_place)
      (λ more. text.no_room_count h.count more block g.count (same ∙ e) (omega (arith, f, packed_length filled counted))))))))
      (λ e. off (alike out rs (a_heading h) over_limit count_place over in_count _ _ (file_over e)
      (cut_at _ _ (text_stops out d r counted (of_number over_limit count_place)
      (λ more. text.count_over h.count more block g.count (same ∙ e))))))

  -- They have not.
  without_counts : (place : ℕ) (left : List ℕ) → length (any_bytes (cut_records 0 rs)) ≤ place → place < length (any_bytes filled)
      → length out < length (any_packed filled) → TextStops out filled (NoRoom place) left → Walk out next (heading_block h + 1) (count h.count) 0
  unfolding any_record_bytes of_number
  without_counts place left low high f t =
      let stops = cut_at _ _ (text_later out filled (counted ∷ []) (NoRoom place) left t) in
      by_cases (count_fits s (count h.count))
      (λ e. off (alike out rs (a_heading h) no_room place room (in_zeros place low high) _ left
      (file_full e (omega (arith, f, packed_grow filled (counted ∷ [])))) stops))
      (λ e. off (record {
        file = OverLimit (length (file_bytes rs) + length (heading_bytes h));
        file_left = sets out 0 (packed_so_far rs);
        file_halts = file_over e;
        cut = NoRoom place;
        cut_left = left;
        cut_halts = stops;
        agrees = λ after. over_and_full rs after h (append_assoc rs (a_heading h ∷ []) after) place there _ left;
      }))
    where
      there : InZeroLines rs (heading_block h - blocks_of 0 rs) out place
      there =
          subst (λ (j : ℕ). InZeroLines rs (heading_block h - j) out place) (sym (ordered_blocks o)) (record { after = low; inside = high; full = f })

  with_heading_record : Walk out next (heading_block h + 1) (count h.count) 0
  with_heading_record = go (zeros passed out (cut_records 0 rs) k s c (omega (arith, up_to, block)) fit)
    where
      go : Zeros out (cut_records 0 rs) filled (k + passed) since → Walk out next (heading_block h + 1) (count h.count) 0
      go (with_room d r) = with_counts (subst (λ (j : ℕ). text.Beginning filled j 0 since) up_to d) r
      go (without place left low high f t) = without_counts place left low high f t

pub walk : {rs : List AnyRecord} {k n m : ℕ} → Ordered rs k n m → (out : List ℕ) → Walk out rs k n m
walk none out = unfold cut_records any_packed in on no_tally empty text.empty (omega arith)
walk (next_heading {rs} {k} {m} h o g i) out = go (walk o out)
  where
    go : Walk out rs k 0 m → Walk out (rs ++ (a_heading h ∷ [])) (heading_block h + 1) (count h.count) 0
    go (on s b c f) = with_heading_record out rs k m s o b c f h g i
    go (off q) = off (stopped_later out rs (a_heading h) q)
walk (next_record {rs} {k} {n} {m} t o g e) out = go (walk o out)
  where
    go : Walk out rs k (suc n) m → Walk out (rs ++ (a_record t ∷ [])) k n (m + 1)
    go (on s b c f) = with_term_record out rs k n m s b c f t g e
    go (off q) = off (stopped_later out rs (a_record t) q)
