-- Packed numbers and their shortest forms: each is read back from the other, and what follows a number does not matter. Assumes nothing.
use mathlib.Core.Path.{◌≡◌, refl, sym, ap, ap₂, ◌∙◌}
use mathlib.Core.List.{List, [], ◌∷◌, ◌++◌}
use Prim.Native.Nat.{ℕ, zero, suc, ◌+◌, ◌*◌, ◌/◌, ◌%◌, ◌-◌, ◌^◌, ◌≤◌, ◌<◌}
use native.Mathlib.Nat.{pow-succ', mul_assoc, add-mul}
use native.Mathlib.Decide.{dec_le, ℕ_discrete}
use native.Mathlib.Omega.{arith}
use borrow.Author.Tests.{lt-ltb, le-ltb, lt-leb, le-leb, eq-eqb, ne_eqb}
use lib.ListN.{length}
use Rattle.units.specs.declared.Refusal.TheVariants.{OverLimit, NotShortest}
pub use Rattle.packed_numbers.specs.Numbers.{AllBytes}
use Rattle.packed_numbers.specs.Numbers.{group, got, bad, closed, groups_from, number, groups, encode}
use Rattle.packed_numbers.proofs.Decode.{power_next}

-- The lowest group and the rest, at the weight p.
weights : (x p : ℕ) → x % group * p + x / group * (group * p) ≡ x * p
weights x p =
    let e : x / group * group + x % group ≡ x = omega arith in
    let f : x / group * (group * p) ≡ x / group * group * p = sym (mul_assoc (x / group) group p) in
    let g : (x / group * group + x % group) * p ≡ x / group * group * p + x % group * p = add-mul (x / group * group) (x % group) p in
    let h : (x / group * group + x % group) * p ≡ x * p = ap (λ (n : ℕ). n * p) e in
    omega (arith, f, g, h)

-- A last group that may end a number.
closed_value : (k acc at x : ℕ) (s : List ℕ) → (k ≡ 0 → acc ≡ 0) → (x ≡ 0 → k ≡ 0) → closed k acc at x s ≡ got (acc + x * group ^ k) (at + 1) s
unfolding closed
closed_value k acc at x s p q = go (ℕ_discrete x 0)
  where
    go : Dec (x ≡ 0) → closed k acc at x s ≡ got (acc + x * group ^ k) (at + 1) s
    go (yes e) =
        let f = q e in
        let z : 0 ≡ acc + x * group ^ k = rw (p f, e) (omega arith) in
        rw (eq-eqb x 0 e, eq-eqb k 0 f, ← z)
    go (no e) = rw (ne_eqb x 0 e)

-- The value of k groups, acc, with one more, the byte b, that is not the last.
abbrev with_group : ℕ → ℕ → ℕ → ℕ
with_group k acc b = acc + (b - group) * group ^ k

-- The groups of x after k groups of value acc are read as what they come to, where g of them are enough for x.
abbrev ReadBack : (f k acc at x : ℕ) → List ℕ → Type 0
ReadBack f k acc at x rest =
    (g : ℕ) → x < group ^ g → g ≤ f → k + g ≤ 9 → 0 < f → (k ≡ 0 → acc ≡ 0) → (x ≡ 0 → k ≡ 0)
    → groups_from k acc at (groups f x ++ rest) ≡ got (acc + x * group ^ k) (at + length (groups f x)) rest

read_groups : (f k acc at x : ℕ) (rest : List ℕ) → ReadBack f k acc at x rest
unfolding groups_from groups
read_groups zero k acc at x rest g h l m z p q = absurd (omega arith)
read_groups (suc f) k acc at x rest g h l m z p q =
    go (read_groups f (k + 1) (with_group k acc (x % group + group)) (at + 1) (x / group) rest) (dec_le group x) g h l m
  where
    go : ReadBack f (k + 1) (with_group k acc (x % group + group)) (at + 1) (x / group) rest
        → Dec (group ≤ x) → (g : ℕ) → x < group ^ g → g ≤ suc f → k + g ≤ 9
        → groups_from k acc at (groups (suc f) x ++ rest) ≡ got (acc + x * group ^ k) (at + length (groups (suc f) x)) rest
    go r (no n) g h l m = let u : x < group = omega arith in rw (lt-ltb x group u, lt-ltb x group u) (closed_value k acc at x rest p q)
    go r (yes n) zero h l m = absurd (omega arith)
    go r (yes n) (suc zero) h l m = absurd (omega arith)
    go r (yes n) (suc (suc g)) h l m =
        let b : group ≤ x % group + group = omega arith in
        let v =
        r (suc g) (omega (arith, pow-succ' group (suc g))) (omega arith) (omega arith) (omega arith)
        (λ t. absurd (omega (arith, t))) (λ t. absurd (omega (arith, t, n)))
        in
        let a : at + 1 + length (groups f (x / group)) ≡ at + suc (length (groups f (x / group))) = omega arith in
        rw (le-ltb x group n, le-ltb (x % group + group) group b, lt-leb 8 k (omega arith)) (v ∙ ap₂ (λ (n to : ℕ). got n to rest) sum a)
      where
        sum : with_group k acc (x % group + group) + x / group * group ^ (k + 1) ≡ acc + x * group ^ k
        sum =
            let d : x % group + group - group ≡ x % group = omega arith in
            rw (power_next k, d) (omega (arith, weights x (group ^ k)))

-- The packed form of a number is read as that number.
pub number_encoded : (v at : ℕ) (rest : List ℕ) → v < 2 ^ 63 → number at (encode v ++ rest) ≡ got v (at + length (encode v)) rest
unfolding number encode
number_encoded v at rest h =
    read_groups 10 0 0 at v rest 9 h (omega arith) (omega arith) (omega arith) (λ e. refl) (λ e. refl)
    ∙ ap (λ (n : ℕ). got n (at + length (groups 10 v)) rest) (omega arith)

pub bytes_append : (s t : List ℕ) → AllBytes s → AllBytes t → AllBytes (s ++ t)
bytes_append [] t a b = b
bytes_append (x ∷ s) t a b = (a.0, bytes_append s t a.1 b)

-- A packed number is bytes.
groups_bytes : (n v : ℕ) → AllBytes (groups n v)
unfolding groups
groups_bytes zero v = tt
groups_bytes (suc n) v = go (dec_le group v) (groups_bytes n (v / group))
  where
    go : Dec (group ≤ v) → AllBytes (groups n (v / group)) → AllBytes (groups (suc n) v)
    go (yes h) a = rw (le-ltb v group h) (omega arith, a)
    go (no h) a = let l : v < group = omega (arith, h) in rw (lt-ltb v group l) (omega arith, tt)

pub encode_bytes : (v : ℕ) → AllBytes (encode v)
unfolding encode
encode_bytes v = groups_bytes 10 v

-- s is the groups of x and then rest, and x makes v of acc.
record Form (f k acc at v to : ℕ) (rest s : List ℕ) : Type 0 where
  x : ℕ
  value : v ≡ acc + x * group ^ k
  form : s ≡ groups f x ++ rest
  past : to ≡ at + length (groups f x)
  short : x ≡ 0 → k ≡ 0
  left : AllBytes rest

last_form : (f k acc at v to b : ℕ) (rest s : List ℕ) → AllBytes s → (k ≡ 0 → acc ≡ 0) → b < group → closed k acc at b s ≡ got v to rest
    → Form (suc f) k acc at v to rest (b ∷ s)
unfolding closed groups
last_form f k acc at v to b rest s a z h = go (ℕ_discrete b 0) (ℕ_discrete k 0)
  where
    go : Dec (b ≡ 0) → Dec (k ≡ 0) → closed k acc at b s ≡ got v to rest → Form (suc f) k acc at v to rest (b ∷ s)
    go (yes p) (yes q) e =
        let e' : got 0 (at + 1) s ≡ got v to rest = rw (eq-eqb b 0 p, eq-eqb k 0 q) at e in
        let ev : 0 ≡ v = cc in
        let en : at + 1 ≡ to = cc in
        let er : s ≡ rest = cc in
        let t : 0 ≡ acc + b * group ^ k = rw (z q, p) (omega arith) in
        record { x = b; value = sym ev ∙ t; form = rw (lt-ltb b group h, er); past = rw (lt-ltb b group h) (sym en); short = λ _. q; left = rw er at a }
    go (yes p) (no q) e =
        let e' : bad (NotShortest at) ≡ got v to rest = rw (eq-eqb b 0 p, ne_eqb k 0 q) at e in
        let n : ◌≡◌ {A = ℕ} 0 1 = cc in
        absurd (omega arith)
    go (no p) q e =
        let e' : got (acc + b * group ^ k) (at + 1) s ≡ got v to rest = rw (ne_eqb b 0 p) at e in
        let ev : acc + b * group ^ k ≡ v = cc in
        let en : at + 1 ≡ to = cc in
        let er : s ≡ rest = cc in
        record { x = b; value = sym ev; form = rw (lt-ltb b group h, er); past = rw (lt-ltb b group h) (sym en); short = λ t. absurd (p t); left = rw er at a }

-- A group in front of a form.
sum_up : (y x p : ℕ) → y * p + x * (group * p) ≡ (y + x * group) * p
sum_up y x p = rw (← mul_assoc x group p) (sym (add-mul y (x * group) p))

more_form : (f k acc at v to b : ℕ) (rest s : List ℕ) → group ≤ b → b < 256 → Form f (k + 1) (with_group k acc b) (at + 1) v to rest s
    → Form (suc f) k acc at v to rest (b ∷ s)
unfolding groups
more_form f k acc at v to b rest s h l r =
    let y : ℕ = b - group + r.x * group in
    let nz : r.x ≡ 0 → ⊥ = λ t. let w = r.short t in omega (arith, w) in
    let big : group ≤ y = omega (arith, nz) in
    let low : y % group + group ≡ b = omega arith in
    let high : y / group ≡ r.x = omega arith in
    record {
      x = y;
      value =
          r.value
          ∙ rw (power_next k)
          (assoc acc ((b - group) * group ^ k) (r.x * (group * group ^ k)) ∙ ap (λ (n : ℕ). acc + n) (sum_up (b - group) r.x (group ^ k)));
      form = rw (le-ltb y group big, low, high) (ap (λ (t : List ℕ). b ∷ t) r.form);
      past = rw (le-ltb y group big, high) (r.past ∙ one_more at (length (groups f r.x)));
      short = λ t. absurd (omega (arith, big, t));
      left = r.left;
    }
  where
    assoc : (a b c : ℕ) → a + b + c ≡ a + (b + c)
    assoc a b c = omega arith

    one_more : (a n : ℕ) → a + 1 + n ≡ a + suc n
    one_more a n = omega arith

-- What is read from s after k groups of value acc has the form of groups.
abbrev HasForm : (f k acc at v to : ℕ) → List ℕ → List ℕ → Type 0
HasForm f k acc at v to rest s =
    (k ≡ 0 → acc ≡ 0) → 9 ≤ k + f → groups_from k acc at s ≡ got v to rest → k ≤ 8 → Form f k acc at v to rest s

groups_form : (f k acc at v to : ℕ) (rest s : List ℕ) → AllBytes s → HasForm f k acc at v to rest s
unfolding groups_from
groups_form f k acc at v to rest [] a z m e l = let n : ◌≡◌ {A = ℕ} 0 1 = cc in absurd (omega arith)
groups_form zero k acc at v to rest (b ∷ s) a z m e l = absurd (omega arith)
groups_form (suc f) k acc at v to rest (b ∷ s) a z m e l =
    go (groups_form f (k + 1) (with_group k acc b) (at + 1) v to rest s a.1) (dec_le group b) (dec_le 8 k) e
  where
    go : HasForm f (k + 1) (with_group k acc b) (at + 1) v to rest s
        → Dec (group ≤ b) → Dec (8 ≤ k) → groups_from k acc at (b ∷ s) ≡ got v to rest → Form (suc f) k acc at v to rest (b ∷ s)
    go r (no h) q e = let t : b < group = omega (arith, h) in last_form f k acc at v to b rest s a.1 z t (rw (lt-ltb b group t) at e)
    go r (yes h) (yes q) e =
        let e' : bad (OverLimit at) ≡ got v to rest = rw (le-ltb b group h, le-leb 8 k q) at e in
        let n : ◌≡◌ {A = ℕ} 0 1 = cc in
        absurd (omega arith)
    go r (yes h) (no q) e =
        let t : k < 8 = omega (arith, q) in
        more_form f k acc at v to b rest s h a.0
        (r (λ w. absurd (omega (arith, w))) (omega (arith, m)) (rw (le-ltb b group h, lt-leb 8 k t) at e) (omega (arith, t)))

-- What is read as a number is its packed form: no other bytes are accepted for it.
pub record Encoded (at : ℕ) (s : List ℕ) (v to : ℕ) (rest : List ℕ) : Type 0 where
  pub form : s ≡ encode v ++ rest
  pub past : to ≡ at + length (encode v)
  pub left : AllBytes rest

pub number_encodes : (at v to : ℕ) (rest s : List ℕ) → AllBytes s → number at s ≡ got v to rest → Encoded at s v to rest
unfolding number encode
number_encodes at v to rest s a e =
    let r = groups_form 10 0 0 at v to rest s a (λ _. refl) (omega arith) e (omega arith) in
    let t : v ≡ r.x = r.value ∙ one r.x in
    record {
      form = r.form ∙ ap (λ (n : ℕ). groups 10 n ++ rest) (sym t);
      past = r.past ∙ ap (λ (n : ℕ). at + length (groups 10 n)) (sym t);
      left = r.left;
    }
  where
    one : (x : ℕ) → 0 + x * 1 ≡ x
    one x = omega arith
