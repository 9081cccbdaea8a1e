-- What one byte does to a line, case by case, what a whole line is, and what a digit that goes on says. Assumes nothing.
use mathlib.Core.Path.{◌≡◌, refl, sym, ap, ◌∙◌}
use mathlib.Core.Bool.{true, false}
use mathlib.Core.List.{List, [], ◌∷◌}
use mathlib.Core.Logic.{◌⊎◌, inl, inr}
use Prim.Native.Nat.{ℕ, ◌+◌, ◌*◌, ◌-◌, ◌≤◌, ◌<◌}
use native.Mathlib.Omega.{arith}
use borrow.Author.Tests.{ltb-true, ltb-false, leb-true, eqb-true, ne_eqb}
use lib.Dec.{leb, ltb, eqb}
use Rattle.series_lines.specs.declared.Line.{Line}
use Rattle.series_lines.specs.Lexer.{spot_done, bad, takes_digit, with_digit, with_point, with_space, with_minus, lex, lexes, whole_count, whole_term}
use Rattle.integers.proofs.Tests.{by_cases}
use Rattle.series_lines.proofs.Digits.{in_whole, before_point, at_last_part, in_count, after_value, small, early}
use Rattle.text_promises.proofs.GoodLines.{put, keep}

-- What a byte can do to a line.
pub data Lexed (l : Line) (byte : ℕ) : Line → Type 0 where
  none : Lexed l byte bad
  digit : (d : ℕ) → byte ≡ 48 + d → d < 10 → takes_digit l.spot l.minus l.value d ≡ true
      → Lexed l byte (put l (l.spot + 1) l.minus (10 * l.value + d))
  pointed : byte ≡ 46 → 1 ≤ l.spot → l.spot ≤ 6 → Lexed l byte (put l 7 l.minus l.value)
  spaced : byte ≡ 32 → l.spot ≡ 0 → l.minus ≡ 0 → Lexed l byte l
  kept : byte ≡ 32 → l.spot ≡ spot_done → l.field < 2 → Lexed l byte (keep l l.minus l.value)
  negated : byte ≡ 45 → l.spot ≡ 0 → l.minus ≡ 0 → Lexed l byte (put l 0 1 l.value)

module _ (l : Line) (byte : ℕ) where
  view_digit : 48 ≤ byte → byte < 58 → Lexed l byte (with_digit l (byte - 48))
  unfolding with_digit
  view_digit h k =
      by_cases (takes_digit l.spot l.minus l.value (byte - 48))
      (λ p. rw p (digit (byte - 48) (omega arith) (omega arith) p))
      (λ p. rw p none)

  view_point : byte ≡ 46 → Lexed l byte (with_point l)
  unfolding with_point
  view_point e =
      by_cases (leb 1 l.spot)
      (λ p. by_cases (leb l.spot 6) (λ q. rw (p, q) (pointed e (leb-true _ _ p) (leb-true _ _ q))) (λ q. rw (p, q) none))
      (λ p. rw p none)

  view_space : byte ≡ 32 → Lexed l byte (with_space l)
  unfolding with_space
  view_space e =
      by_cases (eqb l.spot 0)
      (λ p. by_cases (eqb l.minus 0) (λ q. rw (p, q) (spaced e (eqb-true _ _ p) (eqb-true _ _ q))) (λ q. rw (p, q) none))
      (λ p. by_cases (eqb l.spot spot_done)
      (λ q. by_cases (ltb l.field 2) (λ r. rw (p, q, r) (kept e (eqb-true _ _ q) (ltb-true _ _ r))) (λ r. rw (p, q, r) none))
      (λ q. rw (p, q) none))

  view_minus : byte ≡ 45 → Lexed l byte (with_minus l)
  unfolding with_minus
  view_minus e =
      by_cases (eqb l.spot 0)
      (λ p. by_cases (eqb l.minus 0) (λ q. rw (p, q) (negated e (eqb-true _ _ p) (eqb-true _ _ q))) (λ q. rw (p, q) none))
      (λ p. rw p none)

  pub view : Lexed l byte (lex l byte)
  unfolding lex
  view =
      by_cases (ltb byte 48)
      (λ p. by_cases (eqb byte 46) (λ q. rw (p, q) (view_point (eqb-true _ _ q)))
      (λ q. by_cases (eqb byte 32) (λ r. rw (p, q, r) (view_space (eqb-true _ _ r)))
      (λ r. by_cases (eqb byte 45) (λ s. rw (p, q, r, s) (view_minus (eqb-true _ _ s))) (λ s. rw (p, q, r, s) none))))
      (λ p. by_cases (ltb byte 58) (λ q. rw (p, q) (view_digit (ltb-false _ _ p) (ltb-true _ _ q))) (λ q. rw (p, q) none))

-- A bad line stays bad.
bad_step : (byte : ℕ) → lex bad byte ≡ bad
bad_step byte = go (lex bad byte) (view bad byte)
  where
    go : (m : Line) → Lexed bad byte m → m ≡ bad
    go _ none = refl
    go _ (digit d e h t) = absurd (omega (arith, early _ _ _ _ t))
    go _ (pointed e h k) = absurd (omega arith)
    go _ (spaced e h k) = refl
    go _ (kept e h k) = absurd (omega arith)
    go _ (negated e h k) = absurd (omega arith)

bad_stays : (xs : List ℕ) → lexes bad xs ≡ bad
unfolding lexes
bad_stays [] = refl
bad_stays (x ∷ xs) = ap (λ (l : Line). lexes l xs) (bad_step x) ∙ bad_stays xs

-- A whole line.
pub never : {P : Type 0} → false ≡ true → P
never h = let z : ◌≡◌ {A = ℕ} 0 1 = cc in absurd (omega arith)

pub record Term (l : Line) : Type 0 where
  pub spot : l.spot ≡ spot_done
  pub field : l.field ≡ 2

pub term_of : (l : Line) → whole_term l ≡ true → Term l
unfolding whole_term
term_of l h =
    by_cases (eqb l.spot spot_done)
    (λ p. record { spot = eqb-true _ _ p; field = eqb-true _ _ (rw p at h) })
    (λ p. never (rw p at h))

pub record Count (l : Line) : Type 0 where
  pub low : 20 < l.spot
  pub high : l.spot < 25

pub count_of : (l : Line) → whole_count l ≡ true → Count l
unfolding whole_count
count_of l h =
    by_cases (ltb 20 l.spot)
    (λ p. record { low = ltb-true _ _ p; high = ltb-true _ _ (rw p at h) })
    (λ p. never (rw p at h))

-- From a bad line no whole one comes.
pub no_term : {P : Type 0} (xs : List ℕ) (F : Line) → lexes bad xs ≡ F → whole_term F ≡ true → P
no_term xs F e h = let t = term_of F h in let s = ap (λ (l : Line). l.spot) (sym (bad_stays xs) ∙ e) in absurd (omega (arith, t.spot))

pub no_count : {P : Type 0} (xs : List ℕ) (F : Line) → lexes bad xs ≡ F → whole_count F ≡ true → P
no_count xs F e h = let t = count_of F h in let s = ap (λ (l : Line). l.spot) (sym (bad_stays xs) ∙ e) in absurd (omega (arith, t.high))

-- What a digit that goes on says of the number before it: as the last one of a decimal, after a whole one, and after one of a count.
pub last_part : (m v d : ℕ) → takes_digit 17 m v d ≡ true → (m ≡ 0) ⊎ (0 < 10 * v + d)
last_part m v d t =
    let e = at_last_part 17 m v d (small 17 m v d t) (omega arith) (omega arith) in
    by_cases (eqb m 0)
    (λ p. inl (eqb-true _ _ p))
    (λ p. let h = after_value (eqb m 0) (v + d) p (sym e ∙ t) in inr (omega arith))

pub whole_more : (s m v d : ℕ) → 1 ≤ s → s ≤ 6 → takes_digit s m v d ≡ true → (s < 6) × (0 < v)
whole_more s m v d h k t =
    let b = small s m v d t in
    by_cases (ltb s 6)
    (λ p. let l = ltb-true s 6 p in
    (l, after_value (eqb s 0) v (ne_eqb s 0 (λ e. omega (arith, e))) (sym (in_whole s m v d b l) ∙ t)))
    (λ p. never (sym (before_point s m v d b (ltb-false s 6 p) (omega arith)) ∙ t))

pub count_more : (s m v d : ℕ) → 21 ≤ s → takes_digit s m v d ≡ true → (s < 24) × (0 < v)
count_more s m v d h t =
    let k = early s m v d t in
    let e = in_count s m v d (small s m v d t) (omega arith) k in
    (k, after_value (eqb s 20) v (ne_eqb s 20 (λ e. omega (arith, e))) (sym e ∙ t))
