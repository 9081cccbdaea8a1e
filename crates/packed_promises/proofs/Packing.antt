-- Bytes that are read as terms, blocks and a series are their packed form, and the packed form of a series within the limits is
-- read as that series. Assumes nothing.
use mathlib.Core.Path.{◌≡◌, refl, sym, ◌∙◌}
use mathlib.Core.List.{List, [], ◌∷◌, ◌++◌, append_assoc}
use Prim.Native.Nat.{ℕ, zero, suc, ◌+◌, ◌^◌, ◌<◌}
use native.Mathlib.Omega.{arith}
use lib.IntN.{ℤ, nat_abs}
use lib.ListN.{length}
use Rattle.units.specs.Units.{c_limit}
use Rattle.packed_numbers.specs.Numbers.{Read, got, next, number, encode, folded}
use Rattle.packed_numbers.proofs.Folding.{folded_nat_abs}
use Rattle.packed_numbers.proofs.Shortest.{AllBytes, bytes_append, encode_bytes, number_encoded, number_encodes}
use Rattle.limits.specs.declared.Term.{Term}
use Rattle.limits.specs.declared.Tally.{Tally}
use Rattle.limits.specs.Limits.{after_block}
use Rattle.limits.proofs.Passing.{GoodTerm, passes_of, count_passes}
use Rattle.limits.proofs.Terms.{GoodTerms, good_none, good_term}
use Rattle.limits.proofs.Series.{GoodBlock, GoodBlocks, none, more}
use Rattle.packed.specs.Series.{read_term, read_terms, read_block, read_blocks, pack_term, pack_terms, pack_block, pack}
use Rattle.packed.proofs.Accepting.{term_accepted, term_made, next_got}
use Rattle.packed.proofs.Blocks.{TermsAt, no_terms, a_term, block_accepted, block_got}

-- Bytes that begin with a packed form, and what is left.
pub record Begins (p x rest : List ℕ) : Type 0 where
  pub form : x ≡ p ++ rest
  pub left : AllBytes rest

both : {p q x y rest : List ℕ} → Begins p x y → Begins q y rest → Begins (p ++ q) x rest
both {p} {q} {rest = rest} f g = record { form = f.form ∙ rw g.form (sym (append_assoc p q rest)); left = g.left }

number_begins : (at : ℕ) {v to : ℕ} {x rest : List ℕ} → AllBytes x → number at x ≡ got v to rest → Begins (encode v) x rest
number_begins at {v} {to} {x} {rest} a e = let n = number_encodes at v to rest x a e in record { form = n.form; left = n.left }

-- A packed series is bytes.
terms_bytes : (ts : List Term) → AllBytes (pack_terms ts)
unfolding pack_terms pack_term
terms_bytes [] = tt
terms_bytes (t ∷ ts) =
    let a = folded t.a in
    let c = folded t.c in
    let ab = bytes_append (encode a) (encode t.b) (encode_bytes a) (encode_bytes t.b) in
    bytes_append (pack_term t) (pack_terms ts) (bytes_append (encode a ++ encode t.b) (encode c) ab (encode_bytes c)) (terms_bytes ts)

pub pack_bytes : (blocks : List (List Term)) → AllBytes (pack blocks)
unfolding pack pack_block
pack_bytes [] = tt
pack_bytes (ts ∷ blocks) =
    let b = bytes_append (encode (length ts)) (pack_terms ts) (encode_bytes (length ts)) (terms_bytes ts) in
    bytes_append (pack_block ts) (pack blocks) b (pack_bytes blocks)

-- What was read is the packed form.
term_begins : (f : ℕ) (s : Tally) (at : ℕ) (x : List ℕ) (t : Term) (to : ℕ) (rest : List ℕ) → AllBytes x → read_term f s at x ≡ got t to rest
    → Begins (pack_term t) x rest
unfolding pack_term
term_begins f s at x t to rest a e =
    let h = term_accepted f s at x e in
    let p = number_begins at a h.number_a in
    let q = number_begins h.at_b p.left h.number_b in
    let r = number_begins h.at_c q.left h.number_c in
    both (both p q) r

terms_begin : {f n : ℕ} {s : Tally} {at : ℕ} {x : List ℕ} {ts : List Term} {to : ℕ} {rest : List ℕ} → AllBytes x → TermsAt f n s at x ts to rest
    → Begins (pack_terms ts) x rest
unfolding pack_terms
terms_begin a no_terms = record { form = refl; left = a }
terms_begin {f} {s = s} {at = at} {x = x} a (a_term {t = t} {mid = mid} {y = y} e h) =
    let p = term_begins f s at x t mid y a e in
    both p (terms_begin p.left h)

block_begins : (k : ℕ) (s : Tally) (at : ℕ) (x : List ℕ) (ts : List Term) (to : ℕ) (rest : List ℕ) → AllBytes x → read_block k s at x ≡ got ts to rest
    → Begins (pack_block ts) x rest
unfolding pack_block
block_begins k s at x ts to rest a e =
    let b = block_accepted k s at x ts to rest e in
    let p = number_begins at a b.count in
    both p (terms_begin p.left b.terms)

carry : {A : Type 0} {y z : A} {i j : ℕ} {l m : List ℕ} (P : A → List ℕ → Type 0) → got y i l ≡ got z j m → P y l → P z m
carry {y = y} {z = z} {l = l} {m = m} P h w =
    let p : y ≡ z = cc in
    let q : l ≡ m = cc in
    rw (p, q) at w

pub blocks_begin : (n k : ℕ) (s : Tally) (at : ℕ) (x : List ℕ) (bs : List (List Term)) (to : ℕ) (rest : List ℕ) → AllBytes x
    → read_blocks n k s at x ≡ got bs to rest → Begins (pack bs) x rest
unfolding read_blocks pack
blocks_begin zero k s at x bs to rest a e = carry (λ (l : List (List Term)) (r : List ℕ). Begins (pack l) x r) e (record { form = refl; left = a })
blocks_begin (suc n) k s at x bs to rest a e =
    let u = next_got (read_block k s at x) _ e in
    let v = next_got (read_blocks n (k + 1) (after_block k s u.x) u.at u.rest) _ u.second in
    let f = block_begins k s at x u.x u.at u.rest a u.first in
    carry (λ (l : List (List Term)) (r : List ℕ). Begins (pack l) x r) v.second
    (both f (blocks_begin n (k + 1) (after_block k s u.x) u.at u.rest v.x v.at v.rest f.left v.first))

-- The packed form is read.
small : (v : ℕ) (z : ℤ) → nat_abs z < c_limit → folded z < 2 ^ 63
small v z h = omega (arith, folded_nat_abs z)

term_packed : (f : ℕ) (s : Tally) (at : ℕ) (t : Term) (rest : List ℕ) → GoodTerm f s t
    → read_term f s at (pack_term t ++ rest) ≡ got t (at + length (encode (folded t.a)) + length (encode t.b) + length (encode (folded t.c))) rest
unfolding pack_term
term_packed f s at t rest g =
    let a = encode (folded t.a) in
    let b = encode t.b in
    let c = encode (folded t.c) in
    let la : nat_abs t.a < c_limit = omega (arith, g.good_a.small) in
    rw (append_assoc (a ++ b) c rest, append_assoc a b (c ++ rest))
    (term_made f s at (a ++ (b ++ (c ++ rest))) t (at + length a + length b + length c) rest
    (record {
      at_b = at + length a;
      from_b = b ++ (c ++ rest);
      at_c = at + length a + length b;
      from_c = c ++ rest;
      number_a = number_encoded (folded t.a) at (b ++ (c ++ rest)) (small 0 t.a la);
      number_b = number_encoded t.b (at + length a) (c ++ rest) (omega (arith, g.good_b));
      number_c = number_encoded (folded t.c) (at + length a + length b) rest (small 0 t.c g.good_c.small);
      passes = passes_of f s t g;
    }))

-- Where a reader of a packed form comes to.
pub record Comes {A : Type 0} (r : Read A) (x : A) (rest : List ℕ) : Type 0 where
  pub to : ℕ
  pub is : r ≡ got x to rest

terms_packed : {f : ℕ} {s : Tally} {ts : List Term} (at : ℕ) (rest : List ℕ) → GoodTerms f s ts
    → Comes (read_terms (length ts) f s at (pack_terms ts ++ rest)) ts rest
unfolding read_terms pack_terms next
terms_packed at rest good_none = record { to = at; is = refl }
terms_packed {f} {s} {ts = t ∷ ts} at rest (good_term g h) =
    let p = term_packed f s at t (pack_terms ts ++ rest) g in
    let i = terms_packed (at + length (encode (folded t.a)) + length (encode t.b) + length (encode (folded t.c))) rest h in
    record { to = i.to; is = rw (append_assoc (pack_term t) (pack_terms ts) rest, p, i.is) }

block_packed : (k : ℕ) (s : Tally) (ts : List Term) (at : ℕ) (rest : List ℕ) → GoodBlock k s ts → Comes (read_block k s at (pack_block ts ++ rest)) ts rest
unfolding pack_block
block_packed k s ts at rest g =
    let n = length ts in
    let c = number_encoded n at (pack_terms ts ++ rest) (omega (arith, g.few)) in
    let i = terms_packed (at + length (encode n)) rest g.terms in
    let f = count_passes s n (record { few = g.few; fewer = g.fewer }) in
    let b = block_got k s at (encode n ++ (pack_terms ts ++ rest)) n (at + length (encode n)) (pack_terms ts ++ rest) c f in
    record { to = i.to; is = rw (append_assoc (encode n) (pack_terms ts) rest) (b ∙ i.is) }

pub blocks_packed : {k : ℕ} {s : Tally} {bs : List (List Term)} (at : ℕ) (rest : List ℕ) → GoodBlocks k s bs
    → Comes (read_blocks (length bs) k s at (pack bs ++ rest)) bs rest
unfolding read_blocks pack next
blocks_packed at rest none = record { to = at; is = refl }
blocks_packed {k} {s} {bs = ts ∷ bs} at rest (more g h) =
    let p = block_packed k s ts at (pack bs ++ rest) g in
    let i = blocks_packed p.to rest h in
    record { to = i.to; is = rw (append_assoc (pack_block ts) (pack bs) rest, p.is, i.is) }
