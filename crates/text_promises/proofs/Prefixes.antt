-- The prefix rule: a byte cannot continue a line exactly when no line of the grammar begins with the bytes up to it. Assumes nothing.
use mathlib.Core.Path.{◌≡◌, refl, sym, ap, ◌∙◌, subst}
use mathlib.Core.Bool.{true, false}
use mathlib.Core.List.{List, [], ◌∷◌, ◌++◌, append-nil}
use mathlib.Core.Logic.{inr}
use Prim.Native.Nat.{ℕ, zero, suc, ◌+◌, ◌*◌, ◌-◌, ◌^◌, ◌≤◌, ◌<◌}
use native.Mathlib.Nat.{pow-le-pow_right}
use native.Mathlib.Omega.{arith}
use borrow.Author.Tests.{eq-eqb, eqb-true, eqb-false, lt-ltb, leb-true, leb-false}
use lib.Dec.{eqb, leb, lit<}
use lib.ListN.{length}
use Rattle.units.specs.Refusals.{bad_byte}
use Rattle.series_lines.specs.declared.Line.{Line}
use Rattle.series_lines.specs.Lexer.{spot_done, fresh, lex, lexes, whole_count, whole_term}
use Rattle.series_lines.specs.Grammar.{digits, AllDigits, numeral, Natural, Decimal, size, decimal, GoodDecimal}
use Rattle.series_lines.specs.Grammar.{count_bytes}
pub use Rattle.text_promises.specs.Decided.{BeginsTerm, BeginsCount}
use Rattle.series_lines.proofs.Digits.{early}
use Rattle.integers.proofs.Tests.{by_cases}
use Rattle.text_promises.proofs.GoodLines.{put, keep, flag, ten, lexes_append, parts_run, lex_point, lex_keep, natural_run, whole_spots}
use Rattle.text_promises.proofs.GoodLines.{decimal_run, count_run, term_run}
use Rattle.text_promises.proofs.OneByte.{Lexed, none, digit, pointed, spaced, kept, negated, view}
use Rattle.text_promises.proofs.TakenTerms.{no_digit, term_in}
use Rattle.text_promises.proofs.TakenCounts.{count_in}
use Rattle.text_promises.proofs.Lines.{Going, step_in, step_bad, bad_end}
use Rattle.series_lines.specs.declared.Reader.{Reader}
use Rattle.series_lines.specs.Reader.{stopped}
use Rattle.text.specs.Reader.{step}

-- What holds of a term line as long as it is good.
record Live (l : Line) : Type 0 where
  spot : l.spot ≤ spot_done
  field : l.field ≤ 2
  value : l.value < 10 ^ l.spot

live_step : (l : Line) (byte : ℕ) → Live l → ((lex l byte).spot ≡ 31 → ⊥) → Live (lex l byte)
live_step l byte v = go (lex l byte) (view l byte)
  where
    seven : (n : ℕ) → n ≤ 7 → 10 ^ n ≤ 10 ^ 7
    seven n h = pow-le-pow_right (lit< tt) h

    go : (m : Line) → Lexed l byte m → (m.spot ≡ 31 → ⊥) → Live m
    go _ none h = absurd (h refl)
    go _ (digit d i k t) h =
        let n : l.spot ≡ spot_done → ⊥ = λ e. no_digit l.minus l.value d (rw e at t) in
        record { spot = omega (arith, v.spot, n); field = v.field; value = omega (arith, v.value, ten l.spot) }
    go _ (pointed i k j) h = record { spot = omega arith; field = v.field; value = omega (arith, v.value, seven l.spot (omega arith)) }
    go _ (spaced i k j) h = v
    go _ (kept i k j) h = record { spot = omega arith; field = omega (arith, j); value = omega arith }
    go _ (negated i k j) h = record { spot = omega arith; field = v.field; value = rw k at v.value }

live : (xs : List ℕ) (l : Line) → Live l → ((lexes l xs).spot ≡ 31 → ⊥) → Live (lexes l xs)
unfolding lexes
live [] l v h = v
live (x ∷ xs) l v h = live xs (lex l x) (live_step l x v (λ e. h (bad_end (lex l x) xs e))) h

-- Each such line can be finished.
record Finish (l : Line) : Type 0 where
  ys : List ℕ
  whole : whole_term (lexes l ys) ≡ true

-- The decimal 1.11111111111, or what is left of it.
ones : ℕ → List ℕ
ones zero = []
ones (suc n) = 1 ∷ ones n

ones_digits : (n : ℕ) → AllDigits (ones n)
unfolding ones AllDigits
ones_digits zero = tt
ones_digits (suc n) = (lit< tt, ones_digits n)

ones_length : (n : ℕ) → length (ones n) ≡ n
unfolding ones
ones_length zero = refl
ones_length (suc n) = ap suc (ones_length n)

ones_above : (n v : ℕ) → 0 < numeral v (ones (suc n))
unfolding ones numeral
ones_above zero v = omega arith
ones_above (suc n) v = ones_above n (10 * v + 1)

one : Decimal
one = record { minus = false; first = 1; more = []; parts = ones 11 }

one_good : GoodDecimal one
unfolding one size numeral AllDigits
one_good =
    record {
      whole = record { digit = lit< tt; digits = tt; few = omega arith; leading = λ e. refl };
      digits = ones_digits 11;
      eleven = ones_length 11;
      zero = λ e. ones_above 10 1;
    }

-- After whole decimals.
done_finish : (n : ℕ) (l : Line) (m v : ℕ) → l.field + n ≡ 2 → Finish (put l spot_done m v)
unfolding lexes whole_term
done_finish zero l m v h = record { ys = []; whole = eq-eqb l.field 2 (omega arith) }
done_finish (suc n) l m v h =
    let k = keep l m v in
    let f = done_finish n k (flag one.minus) (size one) (omega arith) in
    let e : lexes (lex (put l spot_done m v) 32) (decimal one ++ f.ys) ≡ lexes (put k spot_done (flag one.minus) (size one)) f.ys =
    ap (λ (x : Line). lexes x (decimal one ++ f.ys)) (lex_keep l m v (omega arith))
    ∙ lexes_append k (decimal one) f.ys
    ∙ ap (λ (x : Line). lexes x f.ys) (decimal_run k one one_good) in
    record { ys = 32 ∷ (decimal one ++ f.ys); whole = ap (λ (x : Line). whole_term x) e ∙ f.whole }

-- By some bytes to a line that can be finished.
by_bytes : (l k : Line) (xs : List ℕ) → lexes l xs ≡ k → Finish k → Finish l
by_bytes l k xs e f =
    record { ys = xs ++ f.ys; whole = ap (λ (x : Line). whole_term x) (lexes_append l xs f.ys ∙ ap (λ (x : Line). lexes x f.ys) e) ∙ f.whole }

parts_finish : (n : ℕ) (l : Line) (s m v : ℕ) → l.field ≤ 2 → 7 ≤ s → s + suc n ≡ spot_done → v < 10 ^ s → Finish (put l s m v)
parts_finish n l s m v f h e b =
    let w = numeral v (ones (suc n)) in
    let i = ones_length (suc n) in
    by_bytes (put l s m v) (put l spot_done m w) (digits (ones (suc n)))
    (parts_run (ones (suc n)) l s m v s (ones_digits (suc n)) h (omega (arith, i)) b (omega (arith, i)) (inr (ones_above n v)))
    (done_finish (2 - l.field) l m w (omega arith))

point_finish : (l : Line) (s m v : ℕ) → l.field ≤ 2 → 1 ≤ s → s ≤ 6 → v < 10 ^ 6 → Finish (put l s m v)
unfolding lexes
point_finish l s m v f h k b =
    by_bytes (put l s m v) (put l 7 m v) (46 ∷ []) (lex_point l s m v h k) (parts_finish 10 l 7 m v f (omega arith) refl (omega (arith, b)))

one_digit : (n : ℕ) → 1 ≤ n → Natural n 1 []
unfolding AllDigits
one_digit n h = record { digit = lit< tt; digits = tt; few = h; leading = λ e. refl }

first_finish : (l : Line) (m : ℕ) → l.field ≤ 2 → Finish (put l 0 m 0)
unfolding numeral
first_finish l m f =
    by_bytes (put l 0 m 0) (put l 1 m 1) (digits (1 ∷ []))
    (natural_run 0 6 whole_spots l m 1 [] 1 (one_digit 1 (omega arith)) (omega arith) (omega arith))
    (point_finish l 1 m 1 f (omega arith) (omega arith) (lit< tt))

finish : (l : Line) → Live l → Finish l
finish l v =
    by_cases (leb spot_done l.spot)
    (λ p. let e : l.spot ≡ spot_done = omega (arith, leb-true spot_done l.spot p, v.spot) in
    at_spot l spot_done e (done_finish (2 - l.field) l l.minus l.value (omega (arith, v.field))))
    (λ p. by_cases (leb 7 l.spot)
    (λ q. parts_finish (17 - l.spot) l l.spot l.minus l.value v.field (leb-true 7 l.spot q) (omega (arith, leb-false spot_done l.spot p))
    v.value)
    (λ q. by_cases (leb 1 l.spot)
    (λ r. point_finish l l.spot l.minus l.value v.field (leb-true 1 l.spot r) (omega (arith, leb-false 7 l.spot q))
    (six l.spot l.value v.value (omega (arith, leb-false 7 l.spot q))))
    (λ r. let e : l.spot ≡ 0 = omega (arith, leb-false 1 l.spot r) in
    let z : l.value ≡ 0 = none_yet l.spot l.value e v.value in
    at_spot l 0 e (at_value l z (first_finish l l.minus v.field)))))
  where
    at_spot : (l : Line) (s : ℕ) → l.spot ≡ s → Finish (put l s l.minus l.value) → Finish l
    at_spot l s e f = subst (λ (x : ℕ). Finish (put l x l.minus l.value)) (sym e) f

    at_value : (l : Line) → l.value ≡ 0 → Finish (put l 0 l.minus 0) → Finish (put l 0 l.minus l.value)
    at_value l z f = rw z f

    six : (s v : ℕ) → v < 10 ^ s → s ≤ 6 → v < 10 ^ 6
    six s v h k = let p : 10 ^ s ≤ 10 ^ 6 = pow-le-pow_right (lit< tt) k in omega arith

    none_yet : (s v : ℕ) → s ≡ 0 → v < 10 ^ s → v ≡ 0
    none_yet s v e h = let k : v < 10 ^ 0 = rw e at h in omega arith

-- A term line.
pub term_begins : (xs : List ℕ) → ((lexes (fresh 0) xs).spot ≡ 31 → ⊥) → BeginsTerm xs
term_begins xs h =
    let f = finish (lexes (fresh 0) xs) (live xs (fresh 0) (record { spot = omega arith; field = omega arith; value = omega arith }) h) in
    let t = term_in (xs ++ f.ys) (lexes (fresh 0) (xs ++ f.ys)) (ap (λ (l : Line). whole_term l) (lexes_append (fresh 0) xs f.ys) ∙ f.whole) refl in
    record { rest = f.ys; t = t.t; good = t.good; is = t.is }

pub term_goes_on : (xs : List ℕ) → BeginsTerm xs → (lexes (fresh 0) xs).spot ≡ 31 → ⊥
term_goes_on xs b e =
    let s = bad_end (lexes (fresh 0) xs) b.rest e in
    let q = sym (lexes_append (fresh 0) xs b.rest) ∙ ap (λ (ys : List ℕ). lexes (fresh 0) ys) b.is ∙ term_run b.t b.good in
    omega (arith, s, ap (λ (l : Line). l.spot) q)

-- A count line.
count_live : (l : Line) (byte : ℕ) → 21 ≤ l.spot → ((lex l byte).spot ≡ 31 → ⊥) → (21 ≤ (lex l byte).spot) × ((lex l byte).spot < 25)
count_live l byte h = go (lex l byte) (view l byte)
  where
    go : (m : Line) → Lexed l byte m → (m.spot ≡ 31 → ⊥) → (21 ≤ m.spot) × (m.spot < 25)
    go _ none j = absurd (j refl)
    go _ (digit d i g t) j = (omega arith, omega (arith, early l.spot l.minus l.value d t))
    go _ (pointed i g t) j = absurd (omega arith)
    go _ (spaced i g t) j = absurd (omega arith)
    go _ (kept i g t) j = absurd (omega arith)
    go _ (negated i g t) j = absurd (omega arith)

counting : (xs : List ℕ) (l : Line) → 21 ≤ l.spot → l.spot < 25 → ((lexes l xs).spot ≡ 31 → ⊥) → whole_count (lexes l xs) ≡ true
unfolding lexes whole_count
counting [] l h k n = rw (lt-ltb 20 l.spot h, lt-ltb l.spot 25 k)
counting (x ∷ xs) l h k n =
    let s = count_live l x h (λ e. n (bad_end (lex l x) xs e)) in counting xs (lex l x) s.0 s.1 n

first_live : (byte : ℕ) → ((lex (fresh 20) byte).spot ≡ 31 → ⊥) → (lex (fresh 20) byte).spot ≡ 21
first_live byte = go (lex (fresh 20) byte) (view (fresh 20) byte)
  where
    go : (m : Line) → Lexed (fresh 20) byte m → (m.spot ≡ 31 → ⊥) → m.spot ≡ 21
    go _ none j = absurd (j refl)
    go _ (digit d i g t) j = refl
    go _ (pointed i g t) j = absurd (omega arith)
    go _ (spaced i g t) j = absurd (omega arith)
    go _ (kept i g t) j = absurd (omega arith)
    go _ (negated i g t) j = absurd (omega arith)

pub count_begins : (xs : List ℕ) → ((lexes (fresh 20) xs).spot ≡ 31 → ⊥) → BeginsCount xs
unfolding lexes count_bytes digits AllDigits
count_begins [] h =
    record { rest = 49 ∷ []; c = record { first = 1; more = [] }; good = one_digit 4 (omega arith); is = refl }
count_begins (x ∷ xs) h =
    let s = first_live x (λ e. h (bad_end (lex (fresh 20) x) xs e)) in
    let c = count_in (x ∷ xs) (lexes (fresh 20) (x ∷ xs)) (counting xs (lex (fresh 20) x) (omega (arith, s)) (omega (arith, s)) h) refl in
    record { rest = []; c = c.k; good = c.good; is = append-nil (x ∷ xs) ∙ c.is }

pub count_goes_on : (xs : List ℕ) → BeginsCount xs → (lexes (fresh 20) xs).spot ≡ 31 → ⊥
count_goes_on xs b e =
    let s = bad_end (lexes (fresh 20) xs) b.rest e in
    let q = sym (lexes_append (fresh 20) xs b.rest) ∙ ap (λ (ys : List ℕ). lexes (fresh 20) ys) b.is ∙ count_run b.c b.good in
    omega (arith, s, ap (λ (l : Line). l.spot) q, b.good.few)

-- A byte is refused as a bad one exactly where it makes the line bad.
pub refused_by : (r : Reader) (out : List ℕ) (byte : ℕ) → Going r → (byte ≡ 10 → ⊥) → (P : Type 0)
    → (((lex r.line byte).spot ≡ 31 → ⊥) → P) → (P → (lex r.line byte).spot ≡ 31 → ⊥)
    → (step r out byte ≡ stopped r bad_byte → P → ⊥) × ((P → ⊥) → step r out byte ≡ stopped r bad_byte)
refused_by r out byte g h P f k = (
  (λ e p. let s = ap (λ (q : Reader). q.status) (sym (step_in r out byte g h (k p)).0 ∙ e) in omega (arith, s)),
  (λ n. by_cases (eqb (lex r.line byte).spot 31)
      (λ z. step_bad r out byte g h (eqb-true (lex r.line byte).spot 31 z))
      (λ z. absurd (n (f (eqb-false (lex r.line byte).spot 31 z))))),
)
