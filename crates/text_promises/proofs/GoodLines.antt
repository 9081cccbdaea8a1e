-- A line that follows the grammar is taken byte by byte, and its numbers then stand in the line read so far. Assumes nothing.
use mathlib.Core.Path.{◌≡◌, refl, ap, ◌∙◌}
use mathlib.Core.Bool.{Bool, true, false}
use mathlib.Core.List.{List, [], ◌∷◌, ◌++◌}
use mathlib.Core.Logic.{◌⊎◌, inl, inr, ⊎_elim}
use Prim.Native.Nat.{ℕ, zero, suc, ◌+◌, ◌*◌, ◌-◌, ◌^◌, ◌≤◌, ◌<◌}
use native.Mathlib.Nat.{add-zero, pow-succ', pow-le-pow_right}
use native.Mathlib.Omega.{arith}
use borrow.Author.Tests.{eq-eqb, lt-ltb, le-ltb, le-leb}
use lib.Dec.{eqb, lit<}
use lib.ListN.{length}
use Rattle.series_lines.specs.declared.Line.{Line}
pub use Rattle.series_lines.specs.Lexer.{put, keep}
use Rattle.series_lines.specs.Lexer.{spot_done, value_limit, fresh, takes_digit, with_digit, with_point, with_space, with_minus, lex, lexes}
use Rattle.series_lines.specs.Grammar.{spaces, sign, digits, AllDigits, numeral, Natural, Decimal, size, decimal, GoodDecimal}
use Rattle.series_lines.specs.Grammar.{CountLine, count, count_bytes, GoodCount, TermLine, term_bytes, GoodTerm}
use Rattle.series_lines.proofs.Digits.{in_whole, in_parts, at_last_part, in_count, first_digit, later_digit}

-- A minus as the reader holds it.
unfoldable pub flag : Bool → ℕ
flag true = 1
flag false = 0

pub lexes_append : (l : Line) (xs ys : List ℕ) → lexes l (xs ++ ys) ≡ lexes (lexes l xs) ys
unfolding lexes
lexes_append l [] ys = refl
lexes_append l (x ∷ xs) ys = lexes_append (lex l x) xs ys

-- One digit.
lex_digit : (l : Line) (s m v d : ℕ) → d < 10 → takes_digit s m v d ≡ true → lex (put l s m v) (48 + d) ≡ put l (s + 1) m (10 * v + d)
unfolding lex with_digit
lex_digit l s m v d h t =
    let e : 48 + d - 48 ≡ d = omega arith in
    rw (le-ltb (48 + d) 48 (omega arith), lt-ltb (48 + d) 58 (omega arith), e, t)

takes_last : (m v d : ℕ) → v < value_limit → (m ≡ 0) ⊎ (0 < v + d) → takes_digit 17 m v d ≡ true
takes_last m v d b h =
    at_last_part 17 m v d b (omega arith) (omega arith)
    ∙ ⊎_elim (λ e. first_digit (eqb m 0) (v + d) (eq-eqb m 0 e)) (λ k. later_digit (eqb m 0) (v + d) k) h

-- The digits of a count (20 to 24) and the whole digits of a decimal (0 to 6).
pub record Spots (base top : ℕ) : Type 0 where
  pub first : (m v d : ℕ) → v < value_limit → takes_digit base m v d ≡ true
  pub more : (s m v d : ℕ) → base < s → s < top → v < value_limit → 0 < v → takes_digit s m v d ≡ true

pub whole_spots : Spots 0 6
whole_spots =
    record {
      first = λ m v d b. in_whole 0 m v d b (omega arith) ∙ first_digit (eqb 0 0) v refl;
      more = λ s m v d h k b p. in_whole s m v d b k ∙ later_digit (eqb s 0) v p;
    }

pub count_spots : Spots 20 24
count_spots =
    record {
      first = λ m v d b. in_count 20 m v d b (omega arith) (omega arith) ∙ first_digit (eqb 20 20) v refl;
      more = λ s m v d h k b p. in_count s m v d b (omega arith) k ∙ later_digit (eqb s 20) v p;
    }

pub ten : (n : ℕ) → 10 ^ (n + 1) ≡ 10 * 10 ^ n
ten n = let e : n + 1 ≡ suc n = omega arith in ap (λ (k : ℕ). 10 ^ k) e ∙ pow-succ' 10 n

under : (n v : ℕ) → n ≤ 17 → v < 10 ^ n → v < value_limit
under n v h k = let l : 10 ^ n ≤ 10 ^ 17 = pow-le-pow_right (lit< tt) h in omega arith

nonzero : (v d : ℕ) (ds : List ℕ) → (v ≡ 0 → d ∷ ds ≡ []) → 0 < v
nonzero zero d ds h = let e = h refl in let z : ◌≡◌ {A = ℕ} 0 1 = cc in absurd (omega arith)
nonzero (suc v) d ds h = omega arith

more_run : (base top : ℕ) → Spots base top → (ds : List ℕ) (l : Line) (s m v n : ℕ) → AllDigits ds → base < s → s + length ds ≤ top
    → v < 10 ^ n → n + length ds ≤ 17 → (v ≡ 0 → ds ≡ []) → lexes (put l s m v) (digits ds) ≡ put l (s + length ds) m (numeral v ds)
unfolding lexes digits numeral AllDigits
more_run base top S [] l s m v n a h k p q z = rw (add-zero s)
more_run base top S (d ∷ ds) l s m v n a h k p q z =
    let y : 0 < v = nonzero v d ds z in
    let e : s + 1 + length ds ≡ s + suc (length ds) = omega arith in
    ap (λ (x : Line). lexes x (digits ds)) (lex_digit l s m v d a.0 (S.more s m v d h (omega arith) (under n v (omega arith) p) y))
    ∙ more_run base top S ds l (s + 1) m (10 * v + d) (n + 1) a.1 (omega arith) (omega arith) (omega (arith, ten n, a.0)) (omega arith)
    (λ x. absurd (omega arith))
    ∙ (rw e)

pub natural_run : (base top : ℕ) → Spots base top → (l : Line) (m d : ℕ) (ds : List ℕ) (n : ℕ) → Natural n d ds → base + n ≤ top → n ≤ 6
    → lexes (put l base m 0) (digits (d ∷ ds)) ≡ put l (base + 1 + length ds) m (numeral d ds)
unfolding lexes digits
natural_run base top S l m d ds n g h k =
    let z : 10 * 0 + d ≡ d = omega arith in
    ap (λ (x : Line). lexes x (digits ds)) (lex_digit l base m 0 d g.digit (S.first m 0 d (lit< tt)) ∙ (rw z))
    ∙ more_run base top S ds l (base + 1) m d 1 g.digits (omega arith) (omega (arith, g.few)) g.digit (omega (arith, g.few)) g.leading

-- The eleven decimals.
pub parts_run : (ds : List ℕ) (l : Line) (s m v n : ℕ) → AllDigits ds → 7 ≤ s → s + length ds ≡ spot_done → v < 10 ^ n → n + length ds ≤ 18
    → (m ≡ 0) ⊎ (0 < numeral v ds) → lexes (put l s m v) (digits ds) ≡ put l spot_done m (numeral v ds)
unfolding lexes digits numeral AllDigits
parts_run [] l s m v n a h k p q z = let e : s ≡ spot_done = omega arith in rw e
parts_run (d ∷ []) l s m v n a h k p q z =
    let e : s ≡ 17 = omega arith in
    rw e (lex_digit l 17 m v d a.0 (takes_last m v d (under n v (omega arith) p) (⊎_elim (λ x. inl x) (λ x. inr (omega arith)) z)))
parts_run (d ∷ c ∷ ds) l s m v n a h k p q z =
    ap (λ (x : Line). lexes x (digits (c ∷ ds))) (lex_digit l s m v d a.0 (in_parts s m v d (under n v (omega arith) p) h (omega arith)))
    ∙ parts_run (c ∷ ds) l (s + 1) m (10 * v + d) (n + 1) a.1 (omega arith) (omega arith) (omega (arith, ten n, a.0)) (omega arith) z

spaces_run : (n : ℕ) (l : Line) (v : ℕ) → lexes (put l 0 0 v) (spaces n) ≡ put l 0 0 v
unfolding lexes spaces lex with_space
spaces_run zero l v = refl
spaces_run (suc n) l v = spaces_run n l v

pub lex_point : (l : Line) (s m v : ℕ) → 1 ≤ s → s ≤ 6 → lex (put l s m v) 46 ≡ put l 7 m v
unfolding lex with_point
lex_point l s m v h k = rw (le-leb 1 s h, le-leb s 6 k)

pub lex_keep : (l : Line) (m v : ℕ) → l.field < 2 → lex (put l spot_done m v) 32 ≡ keep l m v
unfolding lex with_space
lex_keep l m v h = rw (lt-ltb l.field 2 h)

sign_run : (m : Bool) (l : Line) → lexes (put l 0 0 0) (sign m) ≡ put l 0 (flag m) 0
unfolding lexes sign lex with_minus flag
sign_run true l = refl
sign_run false l = refl

signed_size : (m : Bool) (v : ℕ) → (m ≡ true → 0 < v) → (flag m ≡ 0) ⊎ (0 < v)
unfolding flag
signed_size true v h = inr (h refl)
signed_size false v h = inl refl

numeral_bound : (ds : List ℕ) (v n : ℕ) → AllDigits ds → v < 10 ^ n → numeral v ds < 10 ^ (n + length ds)
unfolding numeral AllDigits
numeral_bound [] v n a h = rw (add-zero n) h
numeral_bound (d ∷ ds) v n a h =
    let e : n + 1 + length ds ≡ n + suc (length ds) = omega arith in
    rw e at (numeral_bound ds (10 * v + d) (n + 1) a.1 (omega (arith, ten n, a.0)))

pub decimal_run : (l : Line) (d : Decimal) → GoodDecimal d → lexes (put l 0 0 0) (decimal d) ≡ put l spot_done (flag d.minus) (size d)
unfolding decimal size
decimal_run l d g =
    let m = flag d.minus in
    let w = digits (d.first ∷ d.more) in
    let v = numeral d.first d.more in
    let n = 1 + length d.more in
    lexes_append (put l 0 0 0) (sign d.minus) (w ++ (46 ∷ digits d.parts))
    ∙ ap (λ (x : Line). lexes x (w ++ (46 ∷ digits d.parts))) (sign_run d.minus l)
    ∙ lexes_append (put l 0 m 0) w (46 ∷ digits d.parts)
    ∙ ap (λ (x : Line). lexes x (46 ∷ digits d.parts)) (natural_run 0 6 whole_spots l m d.first d.more 6 g.whole (omega arith) (omega arith))
    ∙ after_point l (0 + 1 + length d.more) m v n d.parts (omega arith) (omega (arith, g.whole.few)) g.digits g.eleven
    (numeral_bound d.more d.first 1 g.whole.digits g.whole.digit) (omega (arith, g.whole.few))
    (signed_size d.minus (numeral v d.parts) g.zero)
  where
    after_point : (l : Line) (s m v n : ℕ) (ds : List ℕ) → 1 ≤ s → s ≤ 6 → AllDigits ds → length ds ≡ 11 → v < 10 ^ n → n ≤ 6
        → (m ≡ 0) ⊎ (0 < numeral v ds)
        → lexes (put l s m v) (46 ∷ digits ds) ≡ put l spot_done m (numeral v ds)
    after_point l s m v n ds h k a e b c z =
        unfold lexes in
        ap (λ (x : Line). lexes x (digits ds)) (lex_point l s m v h k)
        ∙ parts_run ds l 7 m v n a (omega arith) (omega arith) b (omega arith) z

-- A count line.
pub count_run : (k : CountLine) → GoodCount k → lexes (fresh 20) (count_bytes k) ≡ put (fresh 20) (21 + length k.more) 0 (count k)
unfolding count_bytes count
count_run k g = natural_run 20 24 count_spots (fresh 20) 0 k.first k.more 4 g (omega arith) (omega arith)

-- A term line.
abbrev pub line_of_term : TermLine → Line
line_of_term t =
    record {
      spot = spot_done;
      field = 2;
      minus = flag t.c.minus;
      value = size t.c;
      minusa = flag t.a.minus;
      a = size t.a;
      minusb = flag t.b.minus;
      b = size t.b;
    }

gap_run : (l : Line) (m v n : ℕ) → l.field < 2 → lexes (put l spot_done m v) (32 ∷ spaces n) ≡ keep l m v
unfolding lexes
gap_run l m v n h = ap (λ (x : Line). lexes x (spaces n)) (lex_keep l m v h) ∙ spaces_run n (keep l m v) 0

next_run : (l : Line) (m v n : ℕ) (d : Decimal) → l.field < 2 → GoodDecimal d
    → lexes (put l spot_done m v) ((32 ∷ spaces n) ++ decimal d) ≡ put (keep l m v) spot_done (flag d.minus) (size d)
next_run l m v n d h g =
    lexes_append (put l spot_done m v) (32 ∷ spaces n) (decimal d)
    ∙ ap (λ (x : Line). lexes x (decimal d)) (gap_run l m v n h)
    ∙ decimal_run (keep l m v) d g

pub term_run : (t : TermLine) → GoodTerm t → lexes (fresh 0) (term_bytes t) ≡ line_of_term t
unfolding term_bytes
term_run t g =
    let c : List ℕ = (32 ∷ spaces t.after_b) ++ decimal t.c in
    let b : List ℕ = decimal t.b ++ c in
    let s : List ℕ = 32 ∷ spaces t.after_a in
    let l₁ = put (fresh 0) spot_done (flag t.a.minus) (size t.a) in
    let k₁ = keep (fresh 0) (flag t.a.minus) (size t.a) in
    let l₂ = put k₁ spot_done (flag t.b.minus) (size t.b) in
    lexes_append (fresh 0) (spaces t.lead) (decimal t.a ++ (s ++ b))
    ∙ ap (λ (x : Line). lexes x (decimal t.a ++ (s ++ b))) (spaces_run t.lead (fresh 0) 0)
    ∙ lexes_append (fresh 0) (decimal t.a) (s ++ b)
    ∙ ap (λ (x : Line). lexes x (s ++ b)) (decimal_run (fresh 0) t.a g.a)
    ∙ lexes_append l₁ s b
    ∙ ap (λ (x : Line). lexes x b) (gap_run (fresh 0) (flag t.a.minus) (size t.a) t.after_a (lit< tt))
    ∙ lexes_append k₁ (decimal t.b) c
    ∙ ap (λ (x : Line). lexes x c) (decimal_run k₁ t.b g.b)
    ∙ next_run k₁ (flag t.b.minus) (size t.b) t.after_b t.c (lit< tt) g.c
