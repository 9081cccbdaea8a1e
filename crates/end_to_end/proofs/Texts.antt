-- Series texts: with bytes after it a text is refused 9 at the first of them, and where a text is refused so, a series text stands before; one
-- that is cut short is refused 8. All three come from the answer to every text (text_promises/specs/Decided.antt), not from the reader's
-- steps. Assumes nothing.
use mathlib.Core.Path.{◌≡◌, refl, sym, ap, ◌∙◌, subst}
use mathlib.Core.List.{List, [], ◌∷◌, ◌++◌, append-nil, append_assoc}
use Prim.Native.Nat.{ℕ, suc, ◌+◌, ◌≤◌, ◌<◌}
use native.Mathlib.Omega.{arith}
use lib.ListN.{length, take, replicate, length-append, length-replicate}
use lib.Seq.{take-append_seam}
use Rattle.units.specs.Units.{block_count}
use Rattle.units.specs.Refusals.{number, byte_after_end}
use Rattle.units.specs.declared.Refusal.{Refusal}
use Rattle.units.specs.declared.Refusal.TheVariants.{EndedEarly, ByteAfterEnd}
use Rattle.limits.specs.declared.Tally.{Tally}
use Rattle.packed_promises.specs.Bounds.{packed_limit}
use Rattle.packed_promises.proofs.Theorems.{longest_packed}
use Rattle.series_lines.specs.declared.Outcome.{Outcome}
use Rattle.series_lines.specs.declared.Outcome.TheVariants.{Accepted, Refused}
use Rattle.series_lines.specs.Reader.{last_offset, told}
use Rattle.series_lines.specs.Grammar.{feed, Block, count_bytes, term_bytes, lines_bytes, blocks_bytes, blocks_of_lines, AnyLine, any_bytes, any_packed}
use Rattle.text.specs.Reader.{whole}
use Rattle.text_promises.specs.Decided.{Stands, Refuses, Answers, accepts, refuses, ends_early}
use Rattle.text_promises.specs.Decided.{after_end, bad_byte, early_feed, count_over, number_over, total_over, too_coarse, no_room_count, no_room_term}
use Rattle.text_promises.proofs.Acceptance.{not_accepted}
use Rattle.text_promises.proofs.Decided.{answers, decided}
use Rattle.text_promises.proofs.Theorems.{accepted_text, accepted_elsewhere}
use Rattle.text_promises.proofs.Series.{text_allowed}
use Rattle.end_to_end.specs.EndToEnd.{ReadInto, SeriesText}

-- ---- A text, and more bytes.

-- A text is all the lines of a series, with an output.
record Lines (text out : List ℕ) : Type 0 where
  ls : List AnyLine
  s : Tally
  room : ℕ
  stands : Stands text out ls block_count 0 s [] room

module _ (out text : List ℕ) (t : ReadInto out text) where
  counted : length text ≤ last_offset
  counted = (accepted_text text out t.size t.is).counted

  lines : Lines text out
  lines = go (decided text out counted) t.is
    where
      go : {o : Outcome} {left : List ℕ} → Answers text out o left → o ≡ Accepted t.size → Lines text out
      go (accepts h) e = record { ls = _; s = _; room = _; stands = h }
      go (refuses h r) e = absurd (not_accepted e)
      go (ends_early h a b) e = absurd (not_accepted e)

pub followed : (text more out : List ℕ) (b : ℕ) → ReadInto out text → length (text ++ (b ∷ more)) ≤ last_offset
    → told (whole (text ++ (b ∷ more)) out).reader ≡ Refused (ByteAfterEnd (length text))
followed text more out b t c =
    let l = lines out text t in
    let e : text ≡ any_bytes l.ls = l.stands.is ∙ append-nil (any_bytes l.ls) in
    let s : Stands (text ++ (b ∷ more)) out l.ls block_count 0 l.s (b ∷ more) l.room =
    record { beginning = l.stands.beginning; is = ap (λ (x : List ℕ). x ++ (b ∷ more)) e; fits = l.stands.fits } in
    (answers (text ++ (b ∷ more)) out c (refuses s (after_end b more))).0 ∙ ap (λ (x : List ℕ). Refused (ByteAfterEnd (length x))) (sym e)

not_both : (text more out : List ℕ) (b : ℕ) → ReadInto out text → ReadInto out (text ++ (b ∷ more)) → ⊥
not_both text more out b s t = not_accepted (sym (followed text more out b s (counted out (text ++ (b ∷ more)) t)) ∙ t.is)

-- The packed form of a text has room where the longest series has.
pub room : (text out : List ℕ) → SeriesText text → packed_limit ≤ length out → ReadInto out text
room text out t h =
    let n = t.read.size in
    let r = accepted_text text t.out n t.read.is in
    let l = longest_packed (blocks_of_lines r.ks) (text_allowed r.ks r.good r.limits) in
    record { size = n; is = (accepted_elsewhere text t.out out n t.read.is (omega (arith, l, h, r.long))).0 }

pub no_beginning : (x y : List ℕ) → SeriesText x → SeriesText (x ++ y) → y ≡ []
no_beginning x [] s t = refl
no_beginning x (b ∷ y) s t =
    let out : List ℕ = replicate packed_limit 0 in
    let h : packed_limit ≤ length out = omega (arith, length-replicate {A = ℕ} packed_limit 0) in
    absurd (not_both x y out b (room x out s h) (room (x ++ (b ∷ y)) out t h))

pub not_empty : SeriesText [] → ⊥
unfolding blocks_bytes
not_empty t = let r = accepted_text [] t.out t.read.size t.read.is in some r.ks r.good.eighteen r.is
  where
    some : (ks : List Block) → length ks ≡ block_count → [] ≡ blocks_bytes ks → ⊥
    some [] n e = omega (arith, n)
    some (k ∷ ks) n e =
        omega (arith, ap length e, length-append (count_bytes k.head) (feed ∷ (lines_bytes k.lines ++ blocks_bytes ks)))

-- ---- A text that is cut short.

-- What is refused of a text is refused of a longer one.
still : {at room k n : ℕ} {s : Tally} {rest : List ℕ} {r : Refusal} (y : List ℕ) → Refuses at s room k n rest r → Refuses at s room k n (rest ++ y) r
still y (after_end b more) = after_end b (more ++ y)
still y (bad_byte xs b more a i j k) = rw (append_assoc xs (b ∷ more) y) (bad_byte xs b (more ++ y) a i j k)
still y (early_feed xs more a i j) = rw (append_assoc xs (feed ∷ more) y) (early_feed xs (more ++ y) a i j)
still y (count_over l more a g i) = rw (append_assoc (count_bytes l) (feed ∷ more) y) (count_over l (more ++ y) a g i)
still y (number_over l more g i) = rw (append_assoc (term_bytes l) (feed ∷ more) y) (number_over l (more ++ y) g i)
still y (total_over l more g i j) = rw (append_assoc (term_bytes l) (feed ∷ more) y) (total_over l (more ++ y) g i j)
still y (too_coarse l more g i j k) = rw (append_assoc (term_bytes l) (feed ∷ more) y) (too_coarse l (more ++ y) g i j k)
still y (no_room_count l more a g i j) = rw (append_assoc (count_bytes l) (feed ∷ more) y) (no_room_count l (more ++ y) a g i j)
still y (no_room_term l more g i j) = rw (append_assoc (term_bytes l) (feed ∷ more) y) (no_room_term l (more ++ y) g i j)

pub cut_short : (text more out : List ℕ) (b : ℕ) → ReadInto out (text ++ (b ∷ more))
    → told (whole text out).reader ≡ Refused (EndedEarly (length text))
cut_short text more out b t = go (decided text out c)
  where
    y : List ℕ
    y = b ∷ more

    c : length text ≤ last_offset
    c = omega (arith, counted out (text ++ y) t, length-append text y)

    go : {o : Outcome} {left : List ℕ} → Answers text out o left → told (whole text out).reader ≡ Refused (EndedEarly (length text))
    go (accepts h) = absurd (not_both text more out b (record { size = _; is = (answers text out c (accepts h)).0 }) t)
    go (refuses {ls = ls} {k = k} {n = n} {s = s} {rest = rest} {room = left} h r) =
        let e : text ++ y ≡ any_bytes ls ++ (rest ++ y) = ap (λ (x : List ℕ). x ++ y) h.is ∙ append_assoc (any_bytes ls) rest y in
        let h' : Stands (text ++ y) out ls k n s (rest ++ y) left = record { beginning = h.beginning; is = e; fits = h.fits } in
        absurd (not_accepted (sym (answers (text ++ y) out (counted out (text ++ y) t) (refuses h' (still y r))).0 ∙ t.is))
    go (ends_early h a i) = (answers text out c (ends_early h a i)).0

-- ---- The bytes before a 9.

-- A text is all the lines of a series, and more.
record LinesBefore (text out : List ℕ) (at : ℕ) : Type 0 where
  ls : List AnyLine
  s : Tally
  room : ℕ
  b : ℕ
  more : List ℕ
  stands : Stands text out ls block_count 0 s (b ∷ more) room
  here : at ≡ length (any_bytes ls)

module _ (text out : List ℕ) (at : ℕ) where
  other : {r : Refusal} → r ≡ ByteAfterEnd at → (number r ≡ byte_after_end → ⊥) → LinesBefore text out at
  other e h = absurd (h (ap number e))

  after : {ls : List AnyLine} {k n : ℕ} {s : Tally} {rest : List ℕ} {room : ℕ} {r : Refusal} → Stands text out ls k n s rest room
      → Refuses (length (any_bytes ls)) s room k n rest r → r ≡ ByteAfterEnd at → LinesBefore text out at
  after {ls = ls} {s = s} {room = room} h (after_end b more) e =
      record { ls = ls; s = s; room = room; b = b; more = more; stands = h; here = same e }
    where
      same : ByteAfterEnd (length (any_bytes ls)) ≡ ByteAfterEnd at → at ≡ length (any_bytes ls)
      same q = cc
  after h (bad_byte xs b more a i j k) e = other e (λ q. omega (arith, q))
  after h (early_feed xs more a i j) e = other e (λ q. omega (arith, q))
  after h (count_over l more a g i) e = other e (λ q. omega (arith, q))
  after h (number_over l more g i) e = other e (λ q. omega (arith, q))
  after h (total_over l more g i j) e = other e (λ q. omega (arith, q))
  after h (too_coarse l more g i j k) e = other e (λ q. omega (arith, q))
  after h (no_room_count l more a g i j) e = other e (λ q. omega (arith, q))
  after h (no_room_term l more g i j) e = other e (λ q. omega (arith, q))

  before : length text ≤ last_offset → told (whole text out).reader ≡ Refused (ByteAfterEnd at) → LinesBefore text out at
  before c = go (decided text out c)
    where
      inner : {q r : Refusal} → Refused q ≡ Refused r → q ≡ r
      inner e = cc

      go : {o : Outcome} {left : List ℕ} → Answers text out o left → o ≡ Refused (ByteAfterEnd at) → LinesBefore text out at
      go (accepts h) e = absurd (not_accepted (sym e))
      go (refuses h r) e = after h r (inner e)
      go (ends_early h a b) e = other (inner e) (λ q. omega (arith, q))

pub front : (text out : List ℕ) (at : ℕ) → length text ≤ last_offset → told (whole text out).reader ≡ Refused (ByteAfterEnd at)
    → ReadInto out (take at text) × (at < length text)
front text out at c e =
    let l = before text out at c e in
    let x = any_bytes l.ls in
    let n : length text ≡ length x + suc (length l.more) = ap length l.stands.is ∙ length-append x (l.b ∷ l.more) in
    let s : Stands x out l.ls block_count 0 l.s [] l.room =
    record { beginning = l.stands.beginning; is = sym (append-nil x); fits = l.stands.fits } in
    let a = (answers x out (omega (arith, n, c)) (accepts s)).0 in
    let t : take at text ≡ x =
    ap (λ (i : ℕ). take i text) l.here ∙ (ap (λ (y : List ℕ). take (length x) y) l.stands.is ∙ take-append_seam x (l.b ∷ l.more)) in
    (subst (ReadInto out) (sym t) (record { size = length (any_packed l.ls); is = a }), omega (arith, n, l.here))
