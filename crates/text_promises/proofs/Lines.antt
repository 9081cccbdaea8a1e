-- The reader, a line at a time: bytes within a line, its line feed, and what an answer without a refusal says of them. Assumes nothing.
use mathlib.Core.Path.{◌≡◌, refl, sym, ap, ◌∙◌}
use mathlib.Core.List.{List, [], ◌∷◌, ◌++◌}
use Prim.Native.Nat.{ℕ, suc, ◌+◌, ◌≤◌, ◌<◌}
use native.Mathlib.Nat.{add-zero}
use native.Mathlib.Omega.{arith}
use borrow.Author.Tests.{leb-true, eqb-true, eqb-false, eq-eqb, ne_eqb, le-leb}
use lib.Dec.{leb, eqb}
use lib.ListN.{length, length-append}
use lib.Seq.{sets}
use Rattle.units.specs.Refusals.{bad_byte, no_room}
use Rattle.series_lines.specs.declared.Line.{Line}
use Rattle.series_lines.specs.declared.Reader.{Reader}
use Rattle.series_lines.specs.Lexer.{bad, lex, lexes}
use Rattle.series_lines.specs.Reader.{last_offset, stopped, further_in_line, after_line, fits, put_bytes, wrote, wrote_out, uncounted}
use Rattle.series_lines.proofs.Calls as fold
use Rattle.text.specs.Reader.{verdict, other, step, step_out, Run, run}
use Rattle.series_lines.proofs.Digits.{early}
use Rattle.integers.proofs.Tests.{by_cases}
use Rattle.text_promises.proofs.OneByte.{Lexed, none, digit, pointed, spaced, kept, negated, view}

-- The reader r, so many bytes further, in a line.
abbrev pub moved : Reader → Line → ℕ → Reader
moved r line n =
    record {
      line = line;
      at = r.at + n;
      written = r.written;
      blocks = r.blocks;
      left = r.left;
      terms = r.terms;
      total = r.total;
      coarse = r.coarse;
      status = 0;
      place = 0;
    }

-- A reader that reads, before its last_offset countable byte.
pub record Going (r : Reader) : Type 0 where
  pub status : r.status ≡ 0
  pub counts : r.at ≡ last_offset → ⊥
  pub inside : r.line.spot ≡ 30 → ⊥

pub step_in : (r : Reader) (out : List ℕ) (byte : ℕ) → Going r → (byte ≡ 10 → ⊥) → ((lex r.line byte).spot ≡ 31 → ⊥)
    → (step r out byte ≡ further_in_line r (lex r.line byte)) × (step_out r out byte ≡ out)
unfolding step step_out uncounted other
step_in r out byte g h k =
    let t = eq-eqb r.status 0 g.status in
    let u = ne_eqb r.at last_offset g.counts in
    let v = ne_eqb r.line.spot 30 g.inside in
    let w = ne_eqb byte 10 h in
    (rw (t, u, v, w, ne_eqb (lex r.line byte).spot 31 k), rw (t, u, v, w))

pub step_bad : (r : Reader) (out : List ℕ) (byte : ℕ) → Going r → (byte ≡ 10 → ⊥)
    → (lex r.line byte).spot ≡ 31 → step r out byte ≡ stopped r bad_byte
unfolding step uncounted other
step_bad r out byte g h k =
    rw (
      eq-eqb r.status 0 g.status,
      ne_eqb r.at last_offset g.counts,
      ne_eqb r.line.spot 30 g.inside,
      ne_eqb byte 10 h,
      eq-eqb (lex r.line byte).spot 31 k,
    )

pub step_feed : (r : Reader) (out : List ℕ) → Going r → (step r out 10 ≡ wrote r out (verdict r)) × (step_out r out 10 ≡ wrote_out r out (verdict r))
unfolding step step_out uncounted
step_feed r out g =
    let t = eq-eqb r.status 0 g.status in
    let u = ne_eqb r.at last_offset g.counts in
    let v = ne_eqb r.line.spot 30 g.inside in
    (rw (t, u, v), rw (t, u, v))

-- A line feed cannot stand in a line.
lex_feed : (l : Line) → lex l 10 ≡ bad
unfolding lex
lex_feed l = refl

not_feed : (l : Line) (byte : ℕ) → ((lex l byte).spot ≡ 31 → ⊥) → byte ≡ 10 → ⊥
not_feed l byte h e = h (ap (λ (x : ℕ). (lex l x).spot) e ∙ ap (λ (x : Line). x.spot) (lex_feed l))

-- Nothing continues a finished series, and no byte finishes one.
after_bad : (l : Line) (byte : ℕ) → l.spot ≡ 30 → (lex l byte).spot ≡ 31
after_bad l byte e = go (lex l byte) (view l byte)
  where
    go : (m : Line) → Lexed l byte m → m.spot ≡ 31
    go _ none = refl
    go _ (digit d i h t) = absurd (omega (arith, early _ _ _ _ t))
    go _ (pointed i h k) = absurd (omega arith)
    go _ (spaced i h k) = absurd (omega arith)
    go _ (kept i h k) = absurd (omega arith)
    go _ (negated i h k) = absurd (omega arith)

pub not_after : (l : Line) (byte : ℕ) → (l.spot ≡ 30 → ⊥) → (lex l byte).spot ≡ 30 → ⊥
not_after l byte n = go (lex l byte) (view l byte)
  where
    go : (m : Line) → Lexed l byte m → m.spot ≡ 30 → ⊥
    go _ none = λ e. omega (arith, e)
    go _ (digit d i h t) = λ e. omega (arith, e, early _ _ _ _ t)
    go _ (pointed i h k) = λ e. omega (arith, e)
    go _ (spaced i h k) = n
    go _ (kept i h k) = λ e. omega (arith, e)
    go _ (negated i h k) = λ e. omega (arith, e)

pub bad_end : (l : Line) (xs : List ℕ) → l.spot ≡ 31 → (lexes l xs).spot ≡ 31
unfolding lexes
bad_end l [] e = e
bad_end l (x ∷ xs) e = bad_end (lex l x) xs (go (lex l x) (view l x))
  where
    go : (m : Line) → Lexed l x m → m.spot ≡ 31
    go _ none = refl
    go _ (digit d i h t) = absurd (omega (arith, early _ _ _ _ t))
    go _ (pointed i h k) = absurd (omega arith)
    go _ (spaced i h k) = absurd (omega arith)
    go _ (kept i h k) = absurd (omega arith)
    go _ (negated i h k) = absurd (omega arith)

-- The reader r with another count and another answer.
abbrev with_at : Reader → ℕ → ℕ → ℕ → Reader
with_at r at status place =
    record {
      line = r.line;
      at = at;
      written = r.written;
      blocks = r.blocks;
      left = r.left;
      terms = r.terms;
      total = r.total;
      coarse = r.coarse;
      status = status;
      place = place;
    }

pub moved_none : (r : Reader) → r.status ≡ 0 → r.place ≡ 0 → moved r r.line 0 ≡ r
moved_none r s p =
    ap (λ (x : ℕ). with_at r x 0 0) (add-zero r.at)
    ∙ ap (λ (x : ℕ). with_at r r.at x 0) (sym s)
    ∙ ap (λ (x : ℕ). with_at r r.at r.status x) (sym p)

-- The bytes of a line that stays good.
pub line_run : (xs : List ℕ) (r : Reader) (out ys : List ℕ) → r.status ≡ 0 → r.place ≡ 0 → r.at + length xs ≤ last_offset
    → ((lexes r.line xs).spot ≡ 31 → ⊥)
    → run r out (xs ++ ys) ≡ run (moved r (lexes r.line xs) (length xs)) out ys
unfolding lexes run
line_run [] r out ys s p c g = ap (λ (q : Reader). run q out ys) (sym (moved_none r s p))
line_run (x ∷ xs) r out ys s p c g =
    let k : (lex r.line x).spot ≡ 31 → ⊥ = λ e. g (bad_end (lex r.line x) xs e) in
    let h : Going r = record { status = s; counts = λ e. omega (arith, e); inside = λ e. k (after_bad r.line x e) } in
    let t = step_in r out x h (not_feed r.line x k) k in
    let e : r.at + 1 + length xs ≡ r.at + suc (length xs) = omega arith in
    ap (λ (o : List ℕ). run (step r out x) o (xs ++ ys)) t.1
    ∙ ap (λ (q : Reader). run q out (xs ++ ys)) t.0
    ∙ line_run xs (further_in_line r (lex r.line x)) out ys refl refl (omega arith) g
    ∙ ap (λ (n : ℕ). run (with_at (moved r (lexes (lex r.line x) xs) 0) n 0 0) out ys) e

-- A line feed after a line whose judgement is good and whose bytes fit.
pub feed_run : (r : Reader) (out ys : List ℕ) → Going r → (verdict r).refusal ≡ 0 → r.written + length (verdict r).bytes ≤ length out
    → run r out (10 ∷ ys) ≡ run (after_line r (verdict r)) (sets out r.written (verdict r).bytes) ys
unfolding run wrote wrote_out put_bytes fits
feed_run r out ys g v h =
    let t = step_feed r out g in
    let z = eq-eqb (verdict r).refusal 0 v in
    let f = le-leb (r.written + length (verdict r).bytes) (length out) h in
    ap (λ (o : List ℕ). run (step r out 10) o ys) (t.1 ∙ (rw (z, f)))
    ∙ ap (λ (q : Reader). run q (sets out r.written (verdict r).bytes) ys) (t.0 ∙ (rw (z, f)))

-- A reader that has stopped stays so.
pub stays : (xs : List ℕ) (r : Reader) (out : List ℕ) → (r.status ≡ 0 → ⊥) → run r out xs ≡ record { reader = r; out = out }
unfolding run
stays xs r out h = fold.stays step step_out r step_same out_same out xs
  where
    step_same : (out : List ℕ) (x : ℕ) → step r out x ≡ r
    step_same out x = unfold step in rw (ne_eqb r.status 0 h)

    out_same : (out : List ℕ) (x : ℕ) → step_out r out x ≡ out
    out_same out x = unfold step_out in rw (ne_eqb r.status 0 h)

-- The text is taken: the reader reads on, after block 18.
pub record Taken (x : Run) : Type 0 where
  pub status : x.reader.status ≡ 0
  pub spot : x.reader.line.spot ≡ 30

pub not_stopped : {P : Type 0} (r : Reader) (out xs : List ℕ) → (r.status ≡ 0 → ⊥) → Taken (run r out xs) → P
not_stopped r out xs h t = absurd (h (ap (λ (x : Run). x.reader.status) (sym (stays xs r out h)) ∙ t.status))

-- The next line of a text that is taken: its bytes, the reader before its line feed, and what comes after.
pub record NextLine (r : Reader) (out xs : List ℕ) : Type 0 where
  pub body : List ℕ
  pub rest : List ℕ
  pub before : Reader
  pub is : xs ≡ body ++ (10 ∷ rest)
  pub reads : before ≡ moved r (lexes r.line body) (length body)
  pub good : (verdict before).refusal ≡ 0
  pub room : before.written + length (verdict before).bytes ≤ length out
  pub next : run r out xs ≡ run (after_line before (verdict before)) (sets out before.written (verdict before).bytes) rest

-- What comes after a line is shorter.
pub shorter : (xs body rest : List ℕ) → xs ≡ body ++ (10 ∷ rest) → length rest < length xs
shorter xs body rest e = omega (arith, ap length e, length-append body (10 ∷ rest))

feed_good : (r : Reader) (out xs : List ℕ) → Going r → Taken (run (step r out 10) (step_out r out 10) xs)
    → ((verdict r).refusal ≡ 0) × (r.written + length (verdict r).bytes ≤ length out)
unfolding wrote fits
feed_good r out xs g t =
    let f = (step_feed r out g).0 in
    by_cases (eqb (verdict r).refusal 0)
    (λ z. by_cases (leb (r.written + length (verdict r).bytes) (length out))
    (λ y. (eqb-true _ _ z, leb-true _ _ y))
    (λ y. let q : wrote r out (verdict r) ≡ stopped r no_room = rw (z, y) in
    not_stopped (stopped r no_room) (step_out r out 10) xs (λ e. omega (arith, e)) (rw (f ∙ q) at t)))
    (λ z. let q : wrote r out (verdict r) ≡ stopped r (verdict r).refusal = rw z in
    not_stopped (stopped r (verdict r).refusal) (step_out r out 10) xs (eqb-false _ _ z) (rw (f ∙ q) at t))

feed_line : (r : Reader) (out xs : List ℕ) → r.place ≡ 0 → Going r → Taken (run r out (10 ∷ xs)) → NextLine r out (10 ∷ xs)
unfolding lexes
feed_line r out xs p g t =
    let f = feed_good r out xs g (unfold run in t) in
    record {
      body = [];
      rest = xs;
      before = r;
      is = refl;
      reads = sym (moved_none r g.status p);
      good = f.0;
      room = f.1;
      next = feed_run r out xs g f.0 f.1;
    }

-- The byte at the end of what a usize counts stops the reader.
pub step_last : (r : Reader) (out : List ℕ) (x : ℕ) → r.status ≡ 0 → r.at ≡ last_offset → step r out x ≡ stopped r bad_byte
unfolding step uncounted
step_last r out x s e = rw (eq-eqb r.status 0 s, eq-eqb r.at last_offset e)

pub byte_line : (r : Reader) (out : List ℕ) (x : ℕ) (xs : List ℕ) → Going r → (x ≡ 10 → ⊥) → ((lex r.line x).spot ≡ 31 → ⊥)
    → NextLine (further_in_line r (lex r.line x)) out xs → NextLine r out (x ∷ xs)
unfolding lexes run
byte_line r out x xs g h k n =
    let t = step_in r out x g h k in
    let e : r.at + 1 + length n.body ≡ r.at + suc (length n.body) = omega arith in
    record {
      body = x ∷ n.body;
      rest = n.rest;
      before = n.before;
      is = ap (λ (y : List ℕ). x ∷ y) n.is;
      reads = n.reads ∙ ap (λ (m : ℕ). with_at (moved r (lexes (lex r.line x) n.body) 0) m 0 0) e;
      good = n.good;
      room = n.room;
      next = ap (λ (o : List ℕ). run (step r out x) o xs) t.1 ∙ ap (λ (q : Reader). run q out xs) t.0 ∙ n.next;
    }

pub next_line : (xs : List ℕ) (r : Reader) (out : List ℕ) → r.status ≡ 0 → r.place ≡ 0 → (r.line.spot ≡ 30 → ⊥)
    → Taken (run r out xs) → NextLine r out xs
unfolding run
next_line [] r out s p i t = absurd (i t.spot)
next_line (x ∷ xs) r out s p i t =
    by_cases (eqb r.at last_offset)
    (λ z. not_stopped (stopped r bad_byte) (step_out r out x) xs (λ e. omega (arith, e)) (rw (step_last r out x s (eqb-true _ _ z)) at t))
    (λ z. let g : Going r = record { status = s; counts = eqb-false _ _ z; inside = i } in
    by_cases (eqb x 10)
    (λ y. rw (eqb-true x 10 y) (feed_line r out xs p g (rw (eqb-true x 10 y) at t)))
    (λ y. by_cases (eqb (lex r.line x).spot 31)
    (λ w. not_stopped (stopped r bad_byte) (step_out r out x) xs (λ e. omega (arith, e))
    (rw (step_bad r out x g (eqb-false _ _ y) (eqb-true _ _ w)) at t))
    (λ w. let q = step_in r out x g (eqb-false _ _ y) (eqb-false _ _ w) in
    byte_line r out x xs g (eqb-false _ _ y) (eqb-false _ _ w)
    (next_line xs (further_in_line r (lex r.line x)) out refl refl (not_after r.line x i) (rw (q.0, q.1) at t)))))
