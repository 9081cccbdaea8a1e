-- The records of a good beginning, run through the reader. Assumes nothing.
use mathlib.Core.Path.{◌≡◌, refl, sym, ap, ◌∙◌}
use mathlib.Core.Bool.{true}
use mathlib.Core.List.{List, [], ◌∷◌, ◌++◌, append_assoc, append-nil}
use Prim.Native.Nat.{ℕ, suc, ◌+◌, ◌≤◌, ◌<◌}
use native.Mathlib.Omega.{arith}
use borrow.Author.Tests.{leb-true, ltb-true}
use lib.Dec.{leb, ltb, eqb}
use lib.ListN.{length, length-append}
use lib.Seq.{sets, length-sets}
use Rattle.units.specs.Units.{block_count, powers}
use Rattle.limits.specs.declared.Tally.{Tally}
use Rattle.series_lines.specs.Grammar.{feed, AnyLine, any_packed}
use Rattle.series_lines.specs.Reader.{last_offset, next_spot}
use Rattle.series_lines.proofs.WrittenTerm.{sets_append}
use Rattle.published_records.specs.Layout.{Heading, heading_bytes, TermRecord, record_bytes}
use Rattle.published_headings.specs.Judge.{theory_version, coordinate_count, block_of, in_order}
use Rattle.published.specs.declared.Published.{Published}
use Rattle.published.specs.Reader.{begun_file, run}
use Rattle.published_promises.specs.HandCut.{AnyRecord, a_heading, a_record, any_record_bytes, file_bytes, cut_one, blocks_with}
use Rattle.published_promises.specs.HandCut.{cut_records, blocks_of}
use Rattle.published_promises.specs.Decided.{Beginning, empty, with_heading, with_record, packed_so_far}
use Rattle.integers.proofs.Tests.{both}
use Rattle.published_promises.proofs.Lines.{st}
use Rattle.published_promises.proofs.Judged.{packed_append, taken, live, no_feed, heading_can, record_can}
use Rattle.published_promises.proofs.Judged.{heading_zero, record_zero, heading_says, record_says}

-- ---- With one record more.

pub bytes_more : (rs : List AnyRecord) (r : AnyRecord) (rest : List ℕ)
    → file_bytes (rs ++ (r ∷ [])) ++ rest ≡ file_bytes rs ++ (any_record_bytes r ++ (feed ∷ rest))
unfolding file_bytes
bytes_more [] r rest = append_assoc (any_record_bytes r) (feed ∷ []) rest
bytes_more (q ∷ rs) r rest =
    append_assoc (any_record_bytes q) (feed ∷ file_bytes (rs ++ (r ∷ []))) rest
    ∙ ap (λ (y : List ℕ). any_record_bytes q ++ (feed ∷ y)) (bytes_more rs r rest)
    ∙ sym (append_assoc (any_record_bytes q) (feed ∷ file_bytes rs) (any_record_bytes r ++ (feed ∷ rest)))

pub bytes_length : (rs : List AnyRecord) (r : AnyRecord) → length (file_bytes (rs ++ (r ∷ []))) ≡ length (file_bytes rs) + length (any_record_bytes r) + 1
bytes_length rs r =
    omega (
      arith,
      ap length (sym (append-nil (file_bytes (rs ++ (r ∷ [])))) ∙ bytes_more rs r []),
      length-append (file_bytes rs) (any_record_bytes r ++ (feed ∷ [])),
      length-append (any_record_bytes r) (feed ∷ []),
    )

pub cut_more : (k : ℕ) (rs : List AnyRecord) (r : AnyRecord) → cut_records k (rs ++ (r ∷ [])) ≡ cut_records k rs ++ cut_one (blocks_of k rs) r
unfolding cut_records blocks_of
cut_more k [] r = append-nil (cut_one k r)
cut_more k (q ∷ rs) r =
    ap (λ (y : List AnyLine). cut_one k q ++ y) (cut_more (blocks_with k q) rs r)
    ∙ sym (append_assoc (cut_one k q) (cut_records (blocks_with k q) rs) (cut_one (blocks_of (blocks_with k q) rs) r))

pub blocks_more : (k : ℕ) (rs : List AnyRecord) (r : AnyRecord) → blocks_of k (rs ++ (r ∷ [])) ≡ blocks_with (blocks_of k rs) r
unfolding blocks_of
blocks_more k [] r = refl
blocks_more k (q ∷ rs) r = blocks_more (blocks_with k q) rs r

pub blocks_are : {rs : List AnyRecord} {k n m : ℕ} {s : Tally} → Beginning rs k n m s → blocks_of 0 rs ≡ k
unfolding blocks_with
blocks_are empty = unfold blocks_of in refl
blocks_are (with_heading {rs} {k} {m} {s} h b g i f) = blocks_more 0 rs (a_heading h)
blocks_are (with_record {rs} {k} {n} {m} {s} t b g i f) = blocks_more 0 rs (a_record t) ∙ blocks_are b

pub sets_more : (out xs ys : List ℕ) → sets (sets out 0 xs) (length xs) ys ≡ sets out 0 (xs ++ ys)
sets_more out xs ys =
    let z : 0 + length xs ≡ length xs = omega arith in
    ap (λ (i : ℕ). sets (sets out 0 xs) i ys) (sym z) ∙ sym (sets_append xs ys out 0)

module _ {rs : List AnyRecord} {k n m : ℕ} {s : Tally} (b : Beginning rs k n m s) (r : AnyRecord) where
  pub packed_more : packed_so_far (rs ++ (r ∷ [])) ≡ packed_so_far rs ++ any_packed (cut_one k r)
  packed_more =
      ap any_packed (cut_more 0 rs r)
      ∙ packed_append (cut_records 0 rs) (cut_one (blocks_of 0 rs) r)
      ∙ ap (λ (i : ℕ). packed_so_far rs ++ any_packed (cut_one i r)) (blocks_are b)

  pub packed_length : length (packed_so_far (rs ++ (r ∷ []))) ≡ length (packed_so_far rs) + length (any_packed (cut_one k r))
  packed_length = ap length packed_more ∙ length-append (packed_so_far rs) (any_packed (cut_one k r))

  packed_sets : (out : List ℕ)
      → sets (sets out 0 (packed_so_far rs)) (length (packed_so_far rs)) (any_packed (cut_one k r)) ≡ sets out 0 (packed_so_far (rs ++ (r ∷ [])))
  packed_sets out = sets_more out (packed_so_far rs) (any_packed (cut_one k r)) ∙ ap (λ (x : List ℕ). sets out 0 x) (sym packed_more)

-- ---- A heading that is in its order: it has a block, and not an earlier one.

pub record InOrder (k b : ℕ) : Type 0 where
  pub later : k ≤ b
  pub block : b < block_count

pub in_order_facts : (k v c p : ℕ) → in_order k v c p ≡ true → InOrder k (block_of c p)
unfolding in_order block_of
in_order_facts k v c p e =
    let first = (both (eqb v theory_version) _ e).1 in
    let low = both (leb 1 c) _ first in
    let high = both (leb c coordinate_count) _ low.1 in
    let power = both (ltb p powers) _ high.1 in
    let l = leb-true 1 c low.0 in
    let h = leb-true c coordinate_count high.0 in
    let w = ltb-true p powers power.0 in
    record { later = leb-true _ _ power.1; block = omega (arith, l, h, w) }

-- A beginning has no more blocks than a series.
pub few : {rs : List AnyRecord} {k n m : ℕ} {s : Tally} → Beginning rs k n m s → k ≤ block_count
few empty = omega arith
few (with_heading {k = k} h b g i f) = omega (arith, (in_order_facts k h.version h.coordinate h.power i).block)
few (with_record t b g i f) = few b

-- ---- The run.

same_state : (k n m : ℕ) (s : Tally) (rest : List ℕ) (a b w v : ℕ) (o p : List ℕ) → a ≡ b → w ≡ v → o ≡ p
    → run (st a w k n m s) o rest ≡ run (st b v k n m s) p rest
same_state k n m s rest a b w v o p e f g = rw (e, f, g)

-- The reader after the records of a good beginning.
abbrev pub after : List AnyRecord → ℕ → ℕ → ℕ → Tally → Published
after rs k n m s = st (length (file_bytes rs)) (length (packed_so_far rs)) k n m s

-- A run to one record more.
module _ {rs : List AnyRecord} {k n m : ℕ} {s : Tally} (b : Beginning rs k n m s) (r : AnyRecord) (out rest xs : List ℕ) (is : any_record_bytes r ≡ xs) where
  runs_more : (blocks left last : ℕ) (next : Tally)
      → run begun_file out (file_bytes rs ++ (xs ++ (feed ∷ rest))) ≡ run (after rs k n m s) (sets out 0 (packed_so_far rs)) (xs ++ (feed ∷ rest))
      → run (after rs k n m s) (sets out 0 (packed_so_far rs)) (xs ++ (feed ∷ rest))
      ≡ run (st (length (file_bytes rs) + length xs + 1) (length (packed_so_far rs) + length (any_packed (cut_one k r))) blocks left last next)
      (sets (sets out 0 (packed_so_far rs)) (length (packed_so_far rs)) (any_packed (cut_one k r))) rest
      → run begun_file out (file_bytes (rs ++ (r ∷ [])) ++ rest)
      ≡ run (after (rs ++ (r ∷ [])) blocks left last next) (sets out 0 (packed_so_far (rs ++ (r ∷ [])))) rest
  runs_more blocks left last next e f =
      ap (λ (t : List ℕ). run begun_file out t) (bytes_more rs r rest ∙ ap (λ (t : List ℕ). file_bytes rs ++ (t ++ (feed ∷ rest))) is)
      ∙ e
      ∙ f
      ∙ same_state blocks left last next rest _ _ _ _ _ _ (sym (bytes_length rs r ∙ ap (λ (t : List ℕ). length (file_bytes rs) + length t + 1) is))
      (sym (packed_length b r)) (packed_sets b r out)

pub runs : {rs : List AnyRecord} {k n m : ℕ} {s : Tally} → Beginning rs k n m s → (out rest : List ℕ)
    → length (file_bytes rs) ≤ last_offset → length (packed_so_far rs) ≤ length out
    → run begun_file out (file_bytes rs ++ rest) ≡ run (after rs k n m s) (sets out 0 (packed_so_far rs)) rest
runs empty out rest c h = unfold file_bytes cut_records any_packed next_spot in refl
runs (with_heading {rs} {k} {m} {s} h b g i f) out rest c d =
    let at = length (file_bytes rs) in
    let w = length (packed_so_far rs) in
    let u = heading_is h in
    let v = heading_can h g in
    let x = bytes_length rs (a_heading h) in
    let y = packed_length b (a_heading h) in
    let z = length-sets out 0 (packed_so_far rs) in
    runs_more b (a_heading h) out rest (heading_bytes h) u _ _ _ _
    (runs b out (heading_bytes h ++ (feed ∷ rest)) (omega arith) (omega arith))
    (taken at w k 0 m s (sets out 0 (packed_so_far rs)) (heading_bytes h) (a_heading h) _ _ _ _ _ (λ e. awaits k h i)
    (no_feed 0 (heading_bytes h) v) (live 0 (heading_bytes h) v) (heading_says (at + length (heading_bytes h)) w k m s h g)
    (heading_zero k s h i f) (omega (arith, ap length u)) (omega arith) rest)
  where
    heading_is : (h : Heading) → any_record_bytes (a_heading h) ≡ heading_bytes h
    heading_is h = unfold any_record_bytes in refl

    awaits : (k : ℕ) (h : Heading) → in_order k h.version h.coordinate h.power ≡ true → k < block_count
    awaits k h i = let f = in_order_facts k h.version h.coordinate h.power i in omega (arith, f.later, f.block)
runs (with_record {rs} {k} {n} {m} {s} t b g i f) out rest c d =
    let at = length (file_bytes rs) in
    let w = length (packed_so_far rs) in
    let u = record_is t in
    let v = record_can n t g in
    let x = bytes_length rs (a_record t) in
    let y = packed_length b (a_record t) in
    let z = length-sets out 0 (packed_so_far rs) in
    runs_more b (a_record t) out rest (record_bytes t) u _ _ _ _
    (runs b out (record_bytes t ++ (feed ∷ rest)) (omega arith) (omega arith))
    (taken at w k (suc n) m s (sets out 0 (packed_so_far rs)) (record_bytes t) (a_record t) _ _ _ _ _ (λ e. absurd (omega (arith, e)))
    (no_feed (suc n) (record_bytes t) v) (live (suc n) (record_bytes t) v) (record_says (at + length (record_bytes t)) w k m s n t g)
    (record_zero k m s t i f) (omega (arith, ap length u)) (omega arith) rest)
  where
    record_is : (t : TermRecord) → any_record_bytes (a_record t) ≡ record_bytes t
    record_is t = unfold any_record_bytes in refl
