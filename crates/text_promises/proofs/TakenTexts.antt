-- A text that is taken is the lines of its numbers, and what was written is their packed form. Assumes nothing.
use mathlib.Core.Path.{◌≡◌, refl, sym, ap, ◌∙◌}
use mathlib.Core.List.{List, [], ◌∷◌, ◌++◌, append_assoc}
use Prim.Native.Nat.{ℕ, zero, suc, ◌+◌, ◌-◌, ◌≤◌, ◌<◌}
use native.Mathlib.Nat.{add-zero}
use native.Mathlib.Omega.{arith}
use borrow.Author.Tests.{eqb-true, eqb-false, ne_eqb}
use lib.Dec.{eqb}
use lib.ListN.{length, length-append}
use lib.Seq.{sets, length-sets}
use Rattle.units.specs.Units.{block_count}
use Rattle.units.specs.Refusals.{bad_byte, byte_after_end}
use Rattle.packed_numbers.specs.Numbers.{encode}
use Rattle.limits.specs.declared.Tally.{Tally}
use Rattle.limits.specs.Limits.{opened, added, summed, after_block, factor}
use Rattle.packed.specs.Series.{pack_term, pack_terms, pack_block, pack}
use Rattle.series_lines.specs.declared.Line.{Line}
use Rattle.series_lines.specs.declared.Reader.{Reader}
use Rattle.series_lines.specs.Lexer.{fresh, lexes}
use Rattle.series_lines.specs.Judge.{count_refusal, term_line_refusal}
use Rattle.series_lines.specs.Reader.{last_offset, stopped, next_spot, uncounted}
use Rattle.text.specs.Reader.{step, step_out, Run, run}
use Rattle.series_lines.specs.Grammar.{CountLine, count, count_bytes, GoodCount, TermLine, term_bytes, GoodTerm, term_of_line}
use Rattle.series_lines.specs.Grammar.{Block, lines_bytes, blocks_bytes, terms_of_lines, blocks_of_lines, AllGood, GoodBlocks}
use Rattle.series_lines.specs.Grammar.{TermsInLimits, BlocksInLimits}
use Rattle.integers.proofs.Tests.{by_cases}
use Rattle.series_lines.proofs.WrittenTerm.{sets_append}
use Rattle.text_promises.proofs.GoodLines.{flag}
use Rattle.text_promises.proofs.TakenTerms.{term_in}
use Rattle.text_promises.proofs.TakenCounts.{count_in}
use Rattle.text_promises.proofs.Lines.{moved, Taken, not_stopped, next_line, shorter}
use Rattle.series_lines.proofs.LineLimits.{count_limits}
use Rattle.text_promises.proofs.Verdicts.{sp, st, count_verdict, term_verdict, term_limits, ends_count, ends_term}

-- The packed form of a count line and of a term line.
abbrev pub count_packed : CountLine → List ℕ
count_packed c = encode (count c)

abbrev pub term_packed : TermLine → List ℕ
term_packed t = pack_term (term_of_line t)

-- The reader after a count line and after a term line that were written, at the offset to, with w bytes written before them.
abbrev pub after_count : (to w k : ℕ) → Tally → CountLine → Reader
after_count to w k s c = st to (w + length (count_packed c)) (k + 1) (count c) (opened k (count c) s)

abbrev pub after_term : (to w k n : ℕ) → Tally → TermLine → Reader
after_term to w k n s t = st to (w + length (term_packed t)) k (n - 1) (added (factor (k - 1)) s (term_of_line t))

-- A count line that is taken, and what is left to read.
record CountStep (at w k : ℕ) (s : Tally) (out xs : List ℕ) : Type 0 where
  c : CountLine
  good : GoodCount c
  rest : List ℕ
  to : ℕ
  is : xs ≡ count_bytes c ++ (10 ∷ rest)
  fits : count_refusal k s (count c) ≡ 0
  room : w + length (count_packed c) ≤ length out
  next : run (sp 20 at w k 0 s) out xs ≡ run (after_count to w k s c) (sets out w (count_packed c)) rest

count_step : (xs : List ℕ) (at w k : ℕ) (s : Tally) (out : List ℕ) → Taken (run (sp 20 at w k 0 s) out xs) → CountStep at w k s out xs
count_step xs at w k s out t =
    let n = next_line xs (sp 20 at w k 0 s) out refl refl (λ e. omega (arith, e)) t in
    let m = length n.body in
    let L = lexes (fresh 20) n.body in
    let h = ends_count n.before n.body (ap (λ (r : Reader). r.line) n.reads) n.good in
    let c = count_in n.body L h refl in
    let v = count_verdict 20 at w k m s (count c.k) L h (ap (λ (l : Line). l.value) (sym c.line)) in
    let good = rw n.reads at n.good in
    let room = rw (n.reads, v.1) at n.room in
    let next = rw (n.reads, v.2, v.1) at n.next in
    record {
      c = c.k;
      good = c.good;
      rest = n.rest;
      to = at + m + 1;
      is = n.is ∙ ap (λ (y : List ℕ). y ++ (10 ∷ n.rest)) c.is;
      fits = sym v.0 ∙ good;
      room = room;
      next = next;
    }

-- A term line that is taken.
record TermStep (at w k n : ℕ) (s : Tally) (out xs : List ℕ) : Type 0 where
  t : TermLine
  good : GoodTerm t
  rest : List ℕ
  to : ℕ
  is : xs ≡ term_bytes t ++ (10 ∷ rest)
  fits : term_line_refusal (factor (k - 1)) s (flag t.b.minus) (term_of_line t) ≡ 0
  room : w + length (term_packed t) ≤ length out
  next : run (sp 0 at w k n s) out xs ≡ run (after_term to w k n s t) (sets out w (term_packed t)) rest

term_step : (xs : List ℕ) (at w k n : ℕ) (s : Tally) (out : List ℕ) → Taken (run (sp 0 at w k n s) out xs) → TermStep at w k n s out xs
term_step xs at w k left s out t =
    let n = next_line xs (sp 0 at w k left s) out refl refl (λ e. omega (arith, e)) t in
    let m = length n.body in
    let L = lexes (fresh 0) n.body in
    let h = ends_term n.before n.body (ap (λ (r : Reader). r.line) n.reads) n.good in
    let c = term_in n.body L h refl in
    let v = term_verdict 0 at w k m s left c.t in
    let e = n.reads ∙ ap (λ (l : Line). moved (sp 0 at w k left s) l m) (sym c.line) in
    let good = rw e at n.good in
    let room = rw (e, v.1) at n.room in
    let next = rw (e, v.2, v.1) at n.next in
    record {
      t = c.t;
      good = c.good;
      rest = n.rest;
      to = at + m + 1;
      is = n.is ∙ ap (λ (y : List ℕ). y ++ (10 ∷ n.rest)) c.is;
      fits = sym v.0 ∙ good;
      room = room;
      next = next;
    }

-- After block 18 nothing may come.
after_step : (x : ℕ) (xs : List ℕ) (at w k n : ℕ) (s : Tally) (out : List ℕ) {P : Type 0} → Taken (run (sp 30 at w k n s) out (x ∷ xs)) → P
unfolding run step uncounted
after_step x xs at w k n s out t =
    by_cases (eqb at last_offset)
    (λ z. not_stopped (stopped (sp 30 at w k n s) bad_byte) (step_out (sp 30 at w k n s) out x) xs (λ e. omega (arith, e)) (rw z at t))
    (λ z. not_stopped (stopped (sp 30 at w k n s) byte_after_end) (step_out (sp 30 at w k n s) out x) xs (λ e. omega (arith, e)) (rw z at t))

-- What is left of a text that is taken: the terms left of the block, then blocks.
abbrev pub packs : List TermLine → List Block → List ℕ
packs ls ks = pack_terms (terms_of_lines ls) ++ pack (blocks_of_lines ks)

pub record Rest (w k n : ℕ) (s : Tally) (out xs : List ℕ) (end : Run) : Type 0 where
  pub lines : List TermLine
  pub ks : List Block
  pub is : xs ≡ lines_bytes lines ++ blocks_bytes ks
  pub left : length lines ≡ n
  pub good : AllGood lines
  pub limits : TermsInLimits (factor (k - 1)) s lines
  pub count : k + length ks ≡ block_count
  pub goods : GoodBlocks ks
  pub all : BlocksInLimits k (summed (factor (k - 1)) s (terms_of_lines lines)) ks
  pub room : w + length (packs lines ks) ≤ length out
  pub wrote : end.out ≡ sets out w (packs lines ks)
  pub written : end.reader.written ≡ w + length (packs lines ks)

-- A line's bytes, then the others.
module _ (w : ℕ) (x y out : List ℕ) where
  join_room : w + length x + length y ≤ length (sets out w x) → w + length (x ++ y) ≤ length out
  join_room h = omega (arith, h, length-append x y, length-sets out w x)

  join_out : (o : List ℕ) → o ≡ sets (sets out w x) (w + length x) y → o ≡ sets out w (x ++ y)
  join_out o e = e ∙ sym (sets_append x y out w)

  join_written : (n : ℕ) → n ≡ w + length x + length y → n ≡ w + length (x ++ y)
  join_written n e = omega (arith, e, length-append x y)

pub length_terms : (ls : List TermLine) → length (terms_of_lines ls) ≡ length ls
unfolding terms_of_lines
length_terms [] = refl
length_terms (l ∷ ls) = ap suc (length_terms ls)

packs_block : (b : Block) (ks : List Block) → packs [] (b ∷ ks) ≡ encode (length b.lines) ++ packs b.lines ks
unfolding pack_terms terms_of_lines blocks_of_lines pack pack_block
packs_block b ks =
    append_assoc (encode (length (terms_of_lines b.lines))) (pack_terms (terms_of_lines b.lines)) (pack (blocks_of_lines ks))
    ∙ (rw (length_terms b.lines))

packs_term : (t : TermLine) (ls : List TermLine) (ks : List Block) → packs (t ∷ ls) ks ≡ pack_term (term_of_line t) ++ packs ls ks
unfolding pack_terms terms_of_lines
packs_term t ls ks = append_assoc (pack_term (term_of_line t)) (pack_terms (terms_of_lines ls)) (pack (blocks_of_lines ks))

pub less : (k : ℕ) → k + 1 - 1 ≡ k
less k = omega arith

count_rest : (at w k : ℕ) (s : Tally) (out xs : List ℕ) (end : Run) (c : CountStep at w k s out xs)
    → Rest (w + length (count_packed c.c)) (k + 1) (count c.c) (opened k (count c.c) s) (sets out w (count_packed c.c)) c.rest end
    → Rest w k 0 s out xs end
unfolding lines_bytes blocks_bytes AllGood GoodBlocks TermsInLimits BlocksInLimits summed after_block terms_of_lines
count_rest at w k s out xs end c r =
    let n = count c.c in
    let b : Block = record { head = c.c; lines = r.lines } in
    let q : packs [] (b ∷ r.ks) ≡ encode n ++ packs r.lines r.ks =
    packs_block b r.ks ∙ ap (λ (m : ℕ). encode m ++ packs r.lines r.ks) r.left
    in
    let limits = rw (less k) at r.limits in
    let all = rw (less k) at r.all in
    let e : length (terms_of_lines r.lines) ≡ n = length_terms r.lines ∙ r.left in
    record {
      lines = [];
      ks = b ∷ r.ks;
      is = c.is ∙ ap (λ (y : List ℕ). count_bytes c.c ++ (10 ∷ y)) r.is;
      left = refl;
      good = tt;
      limits = tt;
      count = omega (arith, r.count);
      goods = (c.good, r.left, r.good, r.goods);
      all = ((count_limits k s n c.fits).1, limits, rw e all);
      room = rw q (join_room w (encode n) (packs r.lines r.ks) out r.room);
      wrote = rw q (join_out w (encode n) (packs r.lines r.ks) out end.out r.wrote);
      written = rw q (join_written w (encode n) (packs r.lines r.ks) out end.reader.written r.written);
    }

term_rest : (at w k n : ℕ) (s : Tally) (out xs : List ℕ) (end : Run) (c : TermStep at w k (suc n) s out xs)
    → Rest (w + length (term_packed c.t)) k n (added (factor (k - 1)) s (term_of_line c.t)) (sets out w (term_packed c.t)) c.rest end
    → Rest w k (suc n) s out xs end
unfolding lines_bytes AllGood TermsInLimits summed terms_of_lines
term_rest at w k n s out xs end c r =
    let x = term_packed c.t in
    let q = packs_term c.t r.lines r.ks in
    record {
      lines = c.t ∷ r.lines;
      ks = r.ks;
      is =
          c.is
          ∙ ap (λ (y : List ℕ). term_bytes c.t ++ (10 ∷ y)) r.is
          ∙ sym (append_assoc (term_bytes c.t) (10 ∷ lines_bytes r.lines) (blocks_bytes r.ks));
      left = ap suc r.left;
      good = (c.good, r.good);
      limits = (term_limits (factor (k - 1)) s c.t c.fits, r.limits);
      count = r.count;
      goods = r.goods;
      all = r.all;
      room = rw q (join_room w x (packs r.lines r.ks) out r.room);
      wrote = rw q (join_out w x (packs r.lines r.ks) out end.out r.wrote);
      written = rw q (join_written w x (packs r.lines r.ks) out end.reader.written r.written);
    }

none_rest : (xs : List ℕ) (at w k n : ℕ) (s : Tally) (out : List ℕ) → w ≤ length out → Taken (run (sp 30 at w block_count 0 s) out xs)
    → Rest w block_count 0 s out xs (run (sp 30 at w block_count 0 s) out xs)
unfolding lines_bytes blocks_bytes AllGood GoodBlocks TermsInLimits BlocksInLimits pack_terms pack terms_of_lines blocks_of_lines run
none_rest [] at w k n s out h t =
    record {
      lines = [];
      ks = [];
      is = refl;
      left = refl;
      good = tt;
      limits = tt;
      count = refl;
      goods = tt;
      all = tt;
      room = omega arith;
      wrote = refl;
      written = sym (add-zero w);
    }
none_rest (x ∷ xs) at w k n s out h t = after_step x xs at w block_count 0 s out t

pub spot_term : (k n : ℕ) → next_spot k (suc n) ≡ 0
unfolding next_spot
spot_term k n = rw (ne_eqb (suc n) 0 (λ e. omega (arith, e)))

pub spot_count : (k : ℕ) → (k ≡ block_count → ⊥) → next_spot k 0 ≡ 20
unfolding next_spot
spot_count k h = rw (ne_eqb k block_count h)

pub spot_after : next_spot block_count 0 ≡ 30
unfolding next_spot
spot_after = refl

-- Texts that are shorter than xs.
abbrev Shorter : List ℕ → Type 0
Shorter xs =
    (ys : List ℕ) (at w k n : ℕ) (s : Tally) (out : List ℕ) → length ys < length xs → w ≤ length out → Taken (run (st at w k n s) out ys)
    → Rest w k n s out ys (run (st at w k n s) out ys)

module _ (xs : List ℕ) (rec : Shorter xs) (at w k : ℕ) (s : Tally) (out : List ℕ) where
  of_count : CountStep at w k s out xs → Taken (run (sp 20 at w k 0 s) out xs) → Rest w k 0 s out xs (run (sp 20 at w k 0 s) out xs)
  of_count c t =
      let n = count c.c in
      rw c.next
      (count_rest at w k s out xs _ c
      (rec c.rest c.to (w + length (encode n)) (k + 1) n (opened k n s) (sets out w (encode n))
      (shorter xs (count_bytes c.c) c.rest c.is) (omega (arith, c.room, length-sets out w (encode n))) (rw c.next at t)))

  of_term : (n : ℕ) → TermStep at w k (suc n) s out xs → Taken (run (sp 0 at w k (suc n) s) out xs)
      → Rest w k (suc n) s out xs (run (sp 0 at w k (suc n) s) out xs)
  of_term n c t =
      let x = term_packed c.t in
      let e : suc n - 1 ≡ n = omega arith in
      let next = rw e at c.next in
      rw next
      (term_rest at w k n s out xs _ c
      (rec c.rest c.to (w + length x) k n (added (factor (k - 1)) s (term_of_line c.t)) (sets out w x)
      (shorter xs (term_bytes c.t) c.rest c.is) (omega (arith, c.room, length-sets out w x)) (rw next at t)))

  rest_step : (n : ℕ) → w ≤ length out → Taken (run (st at w k n s) out xs) → Rest w k n s out xs (run (st at w k n s) out xs)
  rest_step zero h t =
      by_cases (eqb k block_count)
      (λ z. let e = eqb-true k block_count z in rw (e, spot_after) (none_rest xs at w block_count 0 s out h (rw (e, spot_after) at t)))
      (λ z. let e = spot_count k (eqb-false k block_count z) in rw e (of_count (count_step xs at w k s out (rw e at t)) (rw e at t)))
  rest_step (suc n) h t =
      let e = spot_term k n in rw e (of_term n (term_step xs at w k (suc n) s out (rw e at t)) (rw e at t))

rest_of : (N : ℕ) (xs : List ℕ) (at w k n : ℕ) (s : Tally) (out : List ℕ) → length xs ≤ N → w ≤ length out → Taken (run (st at w k n s) out xs)
    → Rest w k n s out xs (run (st at w k n s) out xs)
rest_of zero xs at w k n s out l h t = rest_step xs (λ ys at w k n s out i j u. absurd (omega (arith, i))) at w k s out n h t
rest_of (suc N) xs at w k n s out l h t =
    rest_step xs (λ ys at w k n s out i j u. rest_of N ys at w k n s out (omega (arith, i)) j u) at w k s out n h t

pub rest_in : (xs : List ℕ) (at w k n : ℕ) (s : Tally) (out : List ℕ) → w ≤ length out → Taken (run (st at w k n s) out xs)
    → Rest w k n s out xs (run (st at w k n s) out xs)
rest_in xs at w k n s out h t = rest_of (length xs) xs at w k n s out (omega arith) h t
