-- The reader's promises. Assumes nothing.
use mathlib.Core.Path.{◌≡◌, sym, ap, ◌∙◌}
use mathlib.Core.List.{List, [], ◌∷◌, ◌++◌}
use Prim.Native.Nat.{ℕ, ◌+◌, ◌≤◌}
use native.Mathlib.Omega.{arith}
use borrow.Author.Tests.{eqb-false, ne_eqb}
use lib.Dec.{eqb}
use lib.ListN.{length, take, length-take}
use lib.Seq.{sets}
use Rattle.units.specs.Refusals.{bad_byte}
use Rattle.limits.specs.Limits.{no_tally, summed}
use Rattle.packed.specs.Series.{pack_terms, pack}
use Rattle.series_lines.specs.declared.Reader.{Reader}
use Rattle.series_lines.specs.declared.Outcome.{Outcome}
use Rattle.series_lines.specs.declared.Outcome.TheVariants.{Accepted}
pub use Rattle.series_lines.specs.Calls.{joined}
use Rattle.series_lines.proofs.Calls as fold
pub use Rattle.text.specs.Reader.{calls, Reads}
use Rattle.series_lines.specs.Reader.{last_offset, next_spot, stopped, told}
use Rattle.text.specs.Reader.{begun, step, step_out, Run, run, ended, whole}
use Rattle.series_lines.specs.Grammar.{feed, Block, lines_bytes, terms_of_lines, blocks_bytes, blocks_of_lines, GoodText, InLimits}
use Rattle.integers.proofs.Tests.{by_cases}
use Rattle.text_promises.proofs.GoodLines.{lexes_append}
use Rattle.text_promises.proofs.Lines.{Going, stays}
use Rattle.text_promises.proofs.Prefixes.{BeginsTerm, term_begins, term_goes_on, BeginsCount, count_begins, count_goes_on, refused_by}
use Rattle.text_promises.proofs.Feeds.{IsTerm, IsCount, feed_term, feed_count}
pub use Rattle.text_promises.proofs.Counted.{cut}
use Rattle.text_promises.proofs.Counted.{counted, uncounted_out}
use Rattle.text_promises.proofs.Decided.{decided, decided_so_far}
use Rattle.text_promises.specs.Decided.{Answers, AnswersSoFar}
use Rattle.series_lines.specs.declared.Line.{Line}
use Rattle.series_lines.specs.Lexer.{spot_decimal, spot_count, spot_after, fresh, lex, lexes}
use Rattle.text_promises.proofs.TakenTexts.{rest_in}
use Rattle.text_promises.proofs.Acceptance.{accepted_by, nothing}
use Rattle.text_promises.proofs.GoodTexts.{blocks_run}

-- Some calls are one call with the bytes of all.
pub cutting : (r : Reader) (out : List ℕ) (ps : List (List ℕ)) → calls r out ps ≡ run r out (joined ps)
unfolding run calls
cutting = fold.cutting step step_out

-- However a text is cut into calls, it comes to what one call with all of it comes to.
pub any_cutting : (text out : List ℕ) (ps : List (List ℕ)) → joined ps ≡ text
    → ◌≡◌ {A = Run} record { reader = ended (calls begun out ps).reader; out = (calls begun out ps).out } (whole text out)
any_cutting text out ps e =
    ap (λ (x : Run). record { reader = ended x.reader; out = x.out }) (cutting begun out ps ∙ ap (λ (t : List ℕ). run begun out t) e)

-- A reader that has refused or ended changes no more, and neither does the output.
pub repeats : (r : Reader) (out : List ℕ) (ps : List (List ℕ)) → (r.status ≡ 0 → ⊥) → calls r out ps ≡ record { reader = r; out = out }
repeats r out ps h = cutting r out ps ∙ stays (joined ps) r out h

pub repeats_end : (r : Reader) → (r.status ≡ 0 → ⊥) → ended r ≡ r
unfolding ended
repeats_end r h = rw (ne_eqb r.status 0 h)

-- After the end it has: whatever state the last call found, later calls repeat its answer and write nothing.
pub ended_stops : (r : Reader) → (ended r).status ≡ 0 → ⊥
unfolding ended
ended_stops r =
    by_cases (eqb r.status 0)
    (λ p. by_cases (eqb r.line.spot spot_after) (λ q. rw (p, q) (λ e. omega (arith, e))) (λ q. rw (p, q) (λ e. omega (arith, e))))
    (λ p. rw p (eqb-false r.status 0 p))

pub repeats_ended : (r : Reader) (out : List ℕ) (ps : List (List ℕ)) → calls (ended r) out ps ≡ record { reader = ended r; out = out }
repeats_ended r out ps = repeats (ended r) out ps (ended_stops r)

pub ended_again : (r : Reader) → ended (ended r) ≡ ended r
ended_again r = repeats_end (ended r) (ended_stops r)

-- A text that follows the grammar within the limits, and has room, is accepted; the output holds its packed form, the rest of it untouched.
pub read_text : (ks : List Block) (out : List ℕ) → GoodText ks → InLimits ks → length (blocks_bytes ks) ≤ last_offset
    → length (pack (blocks_of_lines ks)) ≤ length out
    → (told (whole (blocks_bytes ks) out).reader ≡ Accepted (length (pack (blocks_of_lines ks))))
    × ((whole (blocks_bytes ks) out).out ≡ sets out 0 (pack (blocks_of_lines ks)))
unfolding next_spot ended told
read_text ks out g l c h =
    let n = length (pack (blocks_of_lines ks)) in
    let z : 0 + n ≡ n = omega arith in
    let r = blocks_run ks 0 0 0 no_tally out g.good l (omega (arith, g.eighteen)) (omega arith) (omega arith) in
    (ap (λ (x : Run). told (ended x.reader)) r ∙ ap (λ (i : ℕ). Accepted i) z, ap (λ (x : Run). x.out) r)

-- An accepted text is the lines of its numbers, its bytes can be counted, and the output is exactly their packed form.
pub accepted_text : (text out : List ℕ) (n : ℕ) → told (whole text out).reader ≡ Accepted n → Reads text out n
unfolding next_spot lines_bytes terms_of_lines pack_terms summed
accepted_text text out n e =
    let a = accepted_by text out n e in
    let r = rest_in text 0 0 0 0 no_tally out (omega arith) a.0 in
    let z = nothing r.lines r.left in
    let m : 0 + length (pack (blocks_of_lines r.ks)) ≡ length (pack (blocks_of_lines r.ks)) = omega arith in
    let w : n ≡ length (pack (blocks_of_lines r.ks)) = a.1 ∙ (rw (z, m) at r.written) in
    let room : 0 + length (pack (blocks_of_lines r.ks)) ≤ length out = rw z at r.room in
    record {
      ks = r.ks;
      good = record { eighteen = omega (arith, r.count); good = r.goods };
      limits = rw z at r.all;
      is = rw z at r.is;
      counted = omega (arith, (counted text begun out (omega arith) a.0.status).1);
      long = w;
      room = omega arith;
      written = rw z at r.wrote;
    }

-- So it is accepted with every other output that has room, and leaves the same packed form there.
pub accepted_elsewhere : (text out buffer : List ℕ) (n : ℕ) (e : told (whole text out).reader ≡ Accepted n) → n ≤ length buffer
    → (told (whole text buffer).reader ≡ Accepted n) × ((whole text buffer).out ≡ sets buffer 0 (pack (blocks_of_lines (accepted_text text out n e).ks)))
accepted_elsewhere text out buffer n e h =
    let r = accepted_text text out n e in
    let q = read_text r.ks buffer r.good r.limits (rw r.is at r.counted) (rw r.long at h) in (
      ap (λ (t : List ℕ). told (whole t buffer).reader) r.is ∙ q.0 ∙ ap (λ (i : ℕ). Accepted i) (sym r.long),
      ap (λ (t : List ℕ). (whole t buffer).out) r.is ∙ q.1,
    )

-- However a text that can be counted is cut into calls, its answer and what the output then holds are those of specs/Decided.
pub decided_cut : (text out : List ℕ) (ps : List (List ℕ)) → joined ps ≡ text → length text ≤ last_offset
    → Answers text out (told (ended (calls begun out ps).reader)) (calls begun out ps).out
decided_cut text out ps e c =
    let q = any_cutting text out ps e in
    let i = ap (λ (x : Run). told x.reader) q in
    let j = ap (λ (x : Run). x.out) q in
    rw (i, j) (decided text out c)

-- So are the answer after some calls, and the output, where the text has not ended.
pub decided_calls : (out : List ℕ) (ps : List (List ℕ)) → length (joined ps) ≤ last_offset
    → AnswersSoFar (joined ps) out (told (calls begun out ps).reader) (calls begun out ps).out
decided_calls out ps c =
    let q = cutting begun out ps in
    let i = ap (λ (x : Run). told x.reader) q in
    let j = ap (λ (x : Run). x.out) q in
    rw (i, j) (decided_so_far (joined ps) out c)

-- Any text, however long, leaves in the output the packed form of the lines of a good beginning of its bytes that can be counted, and nothing
-- else; what comes after these lines is refused at a byte, or is a line that can go on, or the series is whole.
pub output : (text out : List ℕ) → (o : Outcome) × AnswersSoFar (take last_offset text) out o (run begun out text).out
output text out =
    let t = take last_offset text in
    (told (run begun out t).reader, rw (uncounted_out text out) (decided_so_far t out (omega (arith, length-take last_offset text))))

-- Refusal 3: in a line whose bytes so far are xs, a byte other than a line feed is refused exactly when no line of the grammar begins with
-- these bytes and it; a line feed is, exactly when they are no whole line.
abbrev pub Exactly : Type 0 → Type 0 → Type 0
Exactly P Q = (P → Q → ⊥) × ((Q → ⊥) → P)

module _ (r : Reader) (out xs : List ℕ) (going : Going r) where
  module _ (byte : ℕ) (no_feed : byte ≡ feed → ⊥) where
    one_more : (l : Line) → r.line ≡ lexes l xs → (lex r.line byte).spot ≡ (lexes l (xs ++ (byte ∷ []))).spot
    unfolding lexes
    one_more l e = ap (λ (x : Line). (lex x byte).spot) e ∙ ap (λ (x : Line). x.spot) (sym (lexes_append l xs (byte ∷ [])))

    pub bad_term : r.line ≡ lexes (fresh spot_decimal) xs → Exactly (step r out byte ≡ stopped r bad_byte) (BeginsTerm (xs ++ (byte ∷ [])))
    bad_term e =
        let s = one_more (fresh spot_decimal) e in
        refused_by r out byte going no_feed (BeginsTerm (xs ++ (byte ∷ [])))
        (λ k. term_begins (xs ++ (byte ∷ [])) (λ q. k (s ∙ q))) (λ b q. term_goes_on (xs ++ (byte ∷ [])) b (sym s ∙ q))

    pub bad_count : r.line ≡ lexes (fresh spot_count) xs → Exactly (step r out byte ≡ stopped r bad_byte) (BeginsCount (xs ++ (byte ∷ [])))
    bad_count e =
        let s = one_more (fresh spot_count) e in
        refused_by r out byte going no_feed (BeginsCount (xs ++ (byte ∷ [])))
        (λ k. count_begins (xs ++ (byte ∷ [])) (λ q. k (s ∙ q))) (λ b q. count_goes_on (xs ++ (byte ∷ [])) b (sym s ∙ q))

  pub bad_term_feed : r.line ≡ lexes (fresh spot_decimal) xs → Exactly (step r out feed ≡ stopped r bad_byte) (IsTerm xs)
  bad_term_feed e = feed_term r out going xs e

  pub bad_count_feed : r.line ≡ lexes (fresh spot_count) xs → Exactly (step r out feed ≡ stopped r bad_byte) (IsCount xs)
  bad_count_feed e = feed_count r out going xs e
