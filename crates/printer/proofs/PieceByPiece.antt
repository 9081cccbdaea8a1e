-- A text that is written piece by piece: what is left to write gives what the whole gives. Assumes nothing.
use mathlib.Core.Path.{◌≡◌, refl, sym, ap, ap₂, ◌∙◌}
use mathlib.Core.List.{List, [], ◌∷◌, ◌++◌, append_assoc, append-nil}
use Prim.Native.Nat.{ℕ, suc, ◌+◌}
use native.Mathlib.Nat.{add-zero}
use native.Mathlib.Omega.{arith}
use lib.ListN.{length, set, length-append}
use lib.Seq.{sets, length-sets, set_comm}
use Rattle.buffers.proofs.Sets.{sets_append}
use Rattle.printer.specs.Machine.Writing.{Room, Wrote}

-- The pieces of a text, joined.
unfoldable pub joined : List (List ℕ) → List ℕ
joined [] = []
joined (xs ∷ ps) = xs ++ joined ps

unfoldable pub total : List (List ℕ) → ℕ
total [] = 0
total (xs ∷ ps) = length xs + total ps

pub length_joined : (ps : List (List ℕ)) → length (joined ps) ≡ total ps
unfolding joined total
length_joined [] = refl
length_joined (xs ∷ ps) = length-append xs (joined ps) ∙ ap (λ (n : ℕ). length xs + n) (length_joined ps)

-- Of a text from at in a buffer start, the pieces ps are left, from p in the buffer out.
pub record Left (text : List ℕ) (at : ℕ) (start : List ℕ) (ps : List (List ℕ)) (p : ℕ) (out : List ℕ) : Type 0 where
  pub count : p + length (joined ps) ≡ at + length text
  pub written : sets out p (joined ps) ≡ sets start at text
  pub same : length out ≡ length start

pub left_is : {text : List ℕ} {ps : List (List ℕ)} → text ≡ joined ps → (at : ℕ) (start : List ℕ) → Left text at start ps at start
left_is e at start = record { count = ap (λ (l : List ℕ). at + length l) (sym e); written = ap (λ (l : List ℕ). sets start at l) (sym e); same = refl }

-- A text as its only piece, and the first piece in two.
pub left_one : (text : List ℕ) (at : ℕ) (start : List ℕ) → Left text at start (text ∷ []) at start
unfolding joined
left_one text at start = let e : text ≡ joined (text ∷ []) = sym (append-nil text) in left_is e at start

pub left_split : {text start xs ys zs out : List ℕ} {ps : List (List ℕ)} {at p : ℕ} → Left text at start (xs ∷ ps) p out → xs ≡ ys ++ zs
    → Left text at start (ys ∷ zs ∷ ps) p out
unfolding joined
left_split {xs = xs} {ys} {zs} {out} {ps} {p = p} l e =
    let q : ys ++ (zs ++ joined ps) ≡ xs ++ joined ps = sym (append_assoc ys zs (joined ps)) ∙ ap (λ (l : List ℕ). l ++ joined ps) (sym e) in
    record { count = ap (λ (l : List ℕ). p + length l) q ∙ l.count; written = ap (λ (l : List ℕ). sets out p l) q ∙ l.written; same = l.same }

pub left_more : {text start xs out : List ℕ} {ps : List (List ℕ)} {at p to : ℕ} {after : List ℕ} → Left text at start (xs ∷ ps) p out
    → Wrote xs p out to after → Left text at start ps to after
unfolding joined
left_more {xs = xs} {out} {ps} {p = p} l w =
    record {
      count = omega (arith, l.count, w.end, length-append xs (joined ps));
      written = ap₂ (λ (o : List ℕ) (i : ℕ). sets o i (joined ps)) w.holds w.end ∙ (sym (sets_append xs (joined ps) out p) ∙ l.written);
      same = ap length w.holds ∙ (length-sets out p xs ∙ l.same);
    }

-- Nothing is left.
pub left_over : {text start out : List ℕ} {at p : ℕ} → Left text at start [] p out → Wrote text at start p out
unfolding joined
left_over {p = p} l = record { end = sym (add-zero p) ∙ l.count; holds = l.written }

pub left_empty : {text start xs out : List ℕ} {ps : List (List ℕ)} {at p : ℕ} → Left text at start (xs ∷ ps) p out → xs ≡ [] → Left text at start ps p out
unfolding joined
left_empty {out = out} {ps} {p = p} l e =
    let q = ap (λ (l : List ℕ). l ++ joined ps) (sym e) in
    record { count = ap (λ (l : List ℕ). p + length l) q ∙ l.count; written = ap (λ (l : List ℕ). sets out p l) q ∙ l.written; same = l.same }

-- There is room for the next piece.
pub left_room : {text start xs out : List ℕ} {ps : List (List ℕ)} {at p : ℕ} → Left text at start (xs ∷ ps) p out → Room text at start → Room xs p out
unfolding joined
left_room {xs = xs} {ps = ps} l r = omega (arith, l.count, l.same, length-append xs (joined ps))

-- A text is written from its end: its last byte first.
pub sets_last : (xs l : List ℕ) (i x : ℕ) → sets l i (xs ++ x ∷ []) ≡ sets (set l (i + length xs) x) i xs
sets_last [] l i x = rw (add-zero i)
sets_last (y ∷ xs) l i x =
    let e : suc i + length xs ≡ i + suc (length xs) = omega arith in
    sets_last xs (set l i y) (suc i) x ∙ rw e (ap (λ (m : List ℕ). sets m (suc i) xs) (set_comm l i (i + suc (length xs)) y x (λ z. omega (arith, z))))
