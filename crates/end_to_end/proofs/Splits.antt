-- Strings of which none is empty and none is the beginning of another make up no string in two ways. Assumes nothing.
use mathlib.Core.Path.{◌≡◌, refl, sym, ap, ◌∙◌, subst}
use mathlib.Core.List.{List, [], ◌∷◌, ◌++◌, append-nil}
use Prim.Native.Nat.{ℕ}
use native.Mathlib.Omega.{arith}
use lib.ListN.{length, drop}
use lib.Seq.{drop-append_seam}
use Rattle.series_lines.specs.Calls.{joined}
use Rattle.end_to_end.specs.EndToEnd.{Each, ToldApart}

-- Of two beginnings of one string, one is the beginning of the other.
data Nested (p q : List ℕ) : Type 0 where
  longer : (y : List ℕ) → q ≡ p ++ y → Nested p q
  shorter : (y : List ℕ) → p ≡ q ++ y → Nested p q

one_more : (a b : ℕ) (p q : List ℕ) → a ≡ b → Nested p q → Nested (a ∷ p) (b ∷ q)
one_more a b p q e (longer y w) = longer y (rw (e, w))
one_more a b p q e (shorter y w) = shorter y (rw (e, w))

nested : (p q r s : List ℕ) → p ++ r ≡ q ++ s → Nested p q
nested [] q r s e = longer q refl
nested (a ∷ p) [] r s e = shorter (a ∷ p) refl
nested (a ∷ p) (b ∷ q) r s e =
    let h : a ≡ b = cc in
    let t : p ++ r ≡ q ++ s = cc in
    one_more a b p q h (nested p q r s t)

-- The same beginning taken away.
cancel : (p r s : List ℕ) → p ++ r ≡ p ++ s → r ≡ s
cancel p r s e = sym (drop-append_seam p r) ∙ (ap (λ (t : List ℕ). drop (length p) t) e ∙ drop-append_seam p s)

empty_front : (x y : List ℕ) → [] ≡ x ++ y → x ≡ []
empty_front [] y e = refl
empty_front (a ∷ x) y e = absurd (omega (arith, ap length e))

module _ (P : List ℕ → Type 0) (not_empty : P [] → ⊥) (no_beginning : (x y : List ℕ) → P x → P (x ++ y) → y ≡ []) where
  -- Two of them that begin one string are the same.
  same_front : (p q r s : List ℕ) → P p → P q → p ++ r ≡ q ++ s → p ≡ q
  same_front p q r s hp hq e = go (nested p q r s e)
    where
      alone : (x y z : List ℕ) → P x → P z → z ≡ x ++ y → x ≡ z
      alone x y z hx hz w = sym (w ∙ (ap (λ (t : List ℕ). x ++ t) (no_beginning x y hx (subst P w hz)) ∙ append-nil x))

      go : Nested p q → p ≡ q
      go (longer y w) = alone p y q hp hq w
      go (shorter y w) = sym (alone q y p hq hp w)

  one_split : (xs ys : List (List ℕ)) → Each P xs → Each P ys → joined xs ≡ joined ys → xs ≡ ys
  unfolding Each joined
  one_split [] [] h k e = refl
  one_split [] (y ∷ ys) h k e = absurd (not_empty (subst P (empty_front y (joined ys) e) k.0))
  one_split (x ∷ xs) [] h k e = absurd (not_empty (subst P (empty_front x (joined xs) (sym e)) h.0))
  one_split (x ∷ xs) (y ∷ ys) h k e =
      let f : x ≡ y = same_front x y (joined xs) (joined ys) h.0 k.0 e in
      let c : xs ≡ ys = one_split xs ys h.1 k.1 (cancel y (joined xs) (joined ys) (rw f at e)) in
      rw (f, c)

  pub told_apart : ToldApart P
  told_apart = record { not_empty = not_empty; no_beginning = no_beginning; one_split = one_split }

-- Some of the strings that are told apart are told apart too.
module _ {P Q : List ℕ → Type 0} (part : (x : List ℕ) → Q x → P x) where
  each_part : (xs : List (List ℕ)) → Each Q xs → Each P xs
  unfolding Each
  each_part [] h = tt
  each_part (x ∷ xs) h = (part x h.0, each_part xs h.1)

  pub part_apart : ToldApart P → ToldApart Q
  part_apart t =
      record {
        not_empty = λ h. t.not_empty (part [] h);
        no_beginning = λ x y h k. t.no_beginning x y (part x h) (part (x ++ y) k);
        one_split = λ xs ys h k e. t.one_split xs ys (each_part xs h) (each_part ys k) e;
      }
