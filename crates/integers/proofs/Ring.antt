-- A ring identity over the integers, proved by computation: `ring ρ e f tt`. Expressions over the variables of a list, their value, and a normal form
-- in Horner's scheme, with integer coefficients that antt computes. Assumes nothing.
use mathlib.Core.Path.{◌≡◌, refl, sym, ap, ap₂, ◌∙◌, subst}
use mathlib.Core.List.{List, [], ◌∷◌}
use mathlib.Core.Bool.{Bool, true, false}
use Prim.Native.Nat.{ℕ, zero, suc}
use lib.Dec.{T, eqb, eqb→eq}
use lib.IntN.{ℤ, pos, negsuc, neg_ℤ, ◌+ℤ◌, ◌-ℤ◌, ◌*ℤ◌, +ℤ_assoc, +ℤ_comm, +ℤ_idl, +ℤ_idr, *ℤ_comm, zero-*ℤ, neg_ℤ-+ℤ, -ℤ-+ℤ_cancel}
use lib.Signed.{◌≤ℤ◌, ◌<ℤ◌, non_neg}
use Rattle.integers.proofs.Pairs.{*ℤ-assoc, *ℤ-+ℤ, +ℤ-*ℤ, neg_ℤ-*ℤ, one-*ℤ, swapℤ, ≤ℤ-of-diff, diff-of-≤ℤ, nonneg, nonneg-+, nonneg-*, nonneg_sq}
use Rattle.integers.proofs.Pairs.{≤ℤ-trans, divided, <ℤ-suc, suc-<ℤ}

infixl 6 ◌⊕◌ ◌⊖◌
infixl 7 ◌⊗◌
pub data E : Type 0 where
  v : ℕ → E
  # : ℕ → E
  ◌⊕◌ : E → E → E
  ◌⊖◌ : E → E → E
  ◌⊗◌ : E → E → E
  ⊝ : E → E

abbrev pub nth : List ℤ → ℕ → ℤ
nth [] i = pos 0
nth (x ∷ ρ) zero = x
nth (x ∷ ρ) (suc i) = nth ρ i

abbrev pub den : List ℤ → E → ℤ
den ρ (v i) = nth ρ i
den ρ (# n) = pos n
den ρ (a ⊕ b) = den ρ a +ℤ den ρ b
den ρ (a ⊖ b) = den ρ a -ℤ den ρ b
den ρ (a ⊗ b) = den ρ a *ℤ den ρ b
den ρ (⊝ a) = neg_ℤ (den ρ a)

-- ---- the normal form: a constant, or p · x + q for the first variable x, where q is over the variables after it

pub data P : Type 0 where
  con : ℤ → P
  hor : P → P → P

abbrev hd : List ℤ → ℤ
hd [] = pos 0
hd (x ∷ ρ) = x

abbrev tl : List ℤ → List ℤ
tl [] = []
tl (x ∷ ρ) = ρ

abbrev ev : P → List ℤ → ℤ
ev (con c) ρ = c
ev (hor p q) ρ = ev p ρ *ℤ hd ρ +ℤ ev q (tl ρ)

abbrev pub addc : ℤ → P → P
addc c (con d) = con (c +ℤ d)
addc c (hor p q) = hor p (addc c q)

abbrev pub plus : P → P → P
plus (con c) q = addc c q
plus (hor p q) (con d) = hor p (addc d q)
plus (hor p q) (hor p' q') = hor (plus p p') (plus q q')

abbrev pub neg : P → P
neg (con c) = con (neg_ℤ c)
neg (hor p q) = hor (neg p) (neg q)

abbrev pub scl : ℤ → P → P
scl c (con d) = con (c *ℤ d)
scl c (hor p q) = hor (scl c p) (scl c q)

abbrev pub lift : (P → P) → P → P
lift f (con c) = hor (con (pos 0)) (f (con c))
lift f (hor p q) = hor (lift f p) (f q)

abbrev pub times : P → P → P
times (con c) r = scl c r
times (hor p q) r = plus (hor (times p r) (con (pos 0))) (lift (λ s. times q s) r)

abbrev pub var : ℕ → P
var zero = hor (con (pos 1)) (con (pos 0))
var (suc i) = hor (con (pos 0)) (var i)

abbrev pub norm : E → P
norm (v i) = var i
norm (# n) = con (pos n)
norm (a ⊕ b) = plus (norm a) (norm b)
norm (a ⊖ b) = plus (norm a) (neg (norm b))
norm (a ⊗ b) = times (norm a) (norm b)
norm (⊝ a) = neg (norm a)

-- ---- it has the same value

ev_addc : (c : ℤ) (p : P) (ρ : List ℤ) → ev (addc c p) ρ ≡ c +ℤ ev p ρ
ev_addc c (con d) ρ = refl
ev_addc c (hor p q) ρ =
    ap (λ t. ev p ρ *ℤ hd ρ +ℤ t) (ev_addc c q (tl ρ)) ∙ sym (+ℤ_assoc (ev p ρ *ℤ hd ρ) c (ev q (tl ρ)))
    ∙ ap (λ t. t +ℤ ev q (tl ρ)) (+ℤ_comm (ev p ρ *ℤ hd ρ) c) ∙ +ℤ_assoc c (ev p ρ *ℤ hd ρ) (ev q (tl ρ))

ev_plus : (p q : P) (ρ : List ℤ) → ev (plus p q) ρ ≡ ev p ρ +ℤ ev q ρ
ev_plus (con c) q ρ = ev_addc c q ρ
ev_plus (hor p q) (con d) ρ =
    ap (λ t. ev p ρ *ℤ hd ρ +ℤ t) (ev_addc d q (tl ρ) ∙ +ℤ_comm d (ev q (tl ρ))) ∙ sym (+ℤ_assoc (ev p ρ *ℤ hd ρ) (ev q (tl ρ)) d)
ev_plus (hor p q) (hor p' q') ρ =
    ap₂ ◌+ℤ◌ (ap (λ t. t *ℤ hd ρ) (ev_plus p p' ρ) ∙ +ℤ-*ℤ (ev p ρ) (ev p' ρ) (hd ρ)) (ev_plus q q' (tl ρ))
    ∙ swapℤ (ev p ρ *ℤ hd ρ) (ev p' ρ *ℤ hd ρ) (ev q (tl ρ)) (ev q' (tl ρ))

ev_neg : (p : P) (ρ : List ℤ) → ev (neg p) ρ ≡ neg_ℤ (ev p ρ)
ev_neg (con c) ρ = refl
ev_neg (hor p q) ρ =
    ap₂ ◌+ℤ◌ (ap (λ t. t *ℤ hd ρ) (ev_neg p ρ) ∙ neg_ℤ-*ℤ (ev p ρ) (hd ρ)) (ev_neg q (tl ρ))
    ∙ sym (neg_ℤ-+ℤ (ev p ρ *ℤ hd ρ) (ev q (tl ρ)))

ev_scl : (c : ℤ) (p : P) (ρ : List ℤ) → ev (scl c p) ρ ≡ c *ℤ ev p ρ
ev_scl c (con d) ρ = refl
ev_scl c (hor p q) ρ =
    ap₂ ◌+ℤ◌ (ap (λ t. t *ℤ hd ρ) (ev_scl c p ρ) ∙ *ℤ-assoc c (ev p ρ) (hd ρ)) (ev_scl c q (tl ρ))
    ∙ sym (*ℤ-+ℤ c (ev p ρ *ℤ hd ρ) (ev q (tl ρ)))

ev_lift : (f : P → P) (k : ℤ) (ρ : List ℤ) → ((s : P) → ev (f s) (tl ρ) ≡ k *ℤ ev s (tl ρ)) → (r : P) → ev (lift f r) ρ ≡ k *ℤ ev r ρ
ev_lift f k ρ h (con c) = ap₂ ◌+ℤ◌ (zero-*ℤ (hd ρ)) (h (con c)) ∙ +ℤ_idl (k *ℤ c)
ev_lift f k ρ h (hor p q) =
    ap₂ ◌+ℤ◌ (ap (λ t. t *ℤ hd ρ) (ev_lift f k ρ h p) ∙ *ℤ-assoc k (ev p ρ) (hd ρ)) (h q)
    ∙ sym (*ℤ-+ℤ k (ev p ρ *ℤ hd ρ) (ev q (tl ρ)))

ev_times : (p q : P) (ρ : List ℤ) → ev (times p q) ρ ≡ ev p ρ *ℤ ev q ρ
ev_times (con c) r ρ = ev_scl c r ρ
ev_times (hor p q) r ρ =
    ev_plus (hor (times p r) (con (pos 0))) (lift (λ s. times q s) r) ρ
    ∙ ap₂ ◌+ℤ◌
    (+ℤ_idr (ev (times p r) ρ *ℤ hd ρ) ∙ ap (λ t. t *ℤ hd ρ) (ev_times p r ρ) ∙ *ℤ-assoc (ev p ρ) (ev r ρ) (hd ρ)
    ∙ ap (λ t. ev p ρ *ℤ t) (*ℤ_comm (ev r ρ) (hd ρ)) ∙ sym (*ℤ-assoc (ev p ρ) (hd ρ) (ev r ρ)))
    (ev_lift (λ s. times q s) (ev q (tl ρ)) ρ (λ s. ev_times q s (tl ρ)) r)
    ∙ sym (+ℤ-*ℤ (ev p ρ *ℤ hd ρ) (ev q (tl ρ)) (ev r ρ))

ev_var : (i : ℕ) (ρ : List ℤ) → ev (var i) ρ ≡ nth ρ i
ev_var zero [] = refl
ev_var zero (x ∷ ρ) = +ℤ_idr (pos 1 *ℤ x) ∙ one-*ℤ x
ev_var (suc i) [] = ap (λ t. pos 0 *ℤ pos 0 +ℤ t) (ev_var i []) ∙ ap (λ t. pos 0 +ℤ t) (nil i)
  where
    nil : (i : ℕ) → nth [] i ≡ pos 0
    nil i = refl
ev_var (suc i) (x ∷ ρ) = ap₂ ◌+ℤ◌ (zero-*ℤ x) (ev_var i ρ) ∙ +ℤ_idl (nth ρ i)

pub norm_sound : (e : E) (ρ : List ℤ) → den ρ e ≡ ev (norm e) ρ
norm_sound (v i) ρ = sym (ev_var i ρ)
norm_sound (# n) ρ = refl
norm_sound (a ⊕ b) ρ = ap₂ ◌+ℤ◌ (norm_sound a ρ) (norm_sound b ρ) ∙ sym (ev_plus (norm a) (norm b) ρ)
norm_sound (a ⊖ b) ρ =
    ap₂ ◌+ℤ◌ (norm_sound a ρ) (ap neg_ℤ (norm_sound b ρ) ∙ sym (ev_neg (norm b) ρ)) ∙ sym (ev_plus (norm a) (neg (norm b)) ρ)
norm_sound (a ⊗ b) ρ = ap₂ ◌*ℤ◌ (norm_sound a ρ) (norm_sound b ρ) ∙ sym (ev_times (norm a) (norm b) ρ)
norm_sound (⊝ a) ρ = ap neg_ℤ (norm_sound a ρ) ∙ sym (ev_neg (norm a) ρ)

-- ---- every coefficient is 0; every coefficient is 0 but the constant, which is not negative

abbrev pub isZ : ℤ → Bool
isZ (pos n) = eqb n 0
isZ (negsuc n) = false

abbrev pub both : Bool → Bool → Bool
both true b = b
both false b = false

abbrev pub zer : P → Bool
zer (con c) = isZ c
zer (hor p q) = both (zer p) (zer q)

abbrev pub nonn : P → Bool
nonn (con c) = non_neg c
nonn (hor p q) = both (zer p) (nonn q)

both_left : (a b : Bool) → T (both a b) → T a
both_left true b t = tt
both_left false b t = t

both_right : (a b : Bool) → T (both a b) → T b
both_right true b t = t
both_right false b t = absurd t

ev_zer : (p : P) (ρ : List ℤ) → T (zer p) → ev p ρ ≡ pos 0
ev_zer (con (pos n)) ρ t = ap pos (eqb→eq n 0 t)
ev_zer (con (negsuc n)) ρ t = absurd t
ev_zer (hor p q) ρ t =
    ap₂ ◌+ℤ◌ (ap (λ t. t *ℤ hd ρ) (ev_zer p ρ (both_left (zer p) (zer q) t)) ∙ zero-*ℤ (hd ρ)) (ev_zer q (tl ρ) (both_right (zer p) (zer q) t))

ev_nonn : (p : P) (ρ : List ℤ) → T (nonn p) → pos 0 ≤ℤ ev p ρ
ev_nonn (con (pos n)) ρ t = nonneg n
ev_nonn (con (negsuc n)) ρ t = absurd t
ev_nonn (hor p q) ρ t =
    subst (λ z. pos 0 ≤ℤ z)
    (sym (ap (λ z. z +ℤ ev q (tl ρ)) (ap (λ t. t *ℤ hd ρ) (ev_zer p ρ (both_left (zer p) (nonn q) t)) ∙ zero-*ℤ (hd ρ)) ∙ +ℤ_idl (ev q (tl ρ))))
    (ev_nonn q (tl ρ) (both_right (zer p) (nonn q) t))

-- ---- THE RING IDENTITY

pub ring : (ρ : List ℤ) (e f : E) → T (zer (norm (e ⊖ f))) → den ρ e ≡ den ρ f
ring ρ e f t =
    sym (-ℤ-+ℤ_cancel (den ρ e) (den ρ f)) ∙ ap (λ z. z +ℤ den ρ f) (norm_sound (e ⊖ f) ρ ∙ ev_zer (norm (e ⊖ f)) ρ t) ∙ +ℤ_idl (den ρ f)

-- ---- CERTIFICATES. `NN ρ e`: e is not negative. The expression stands in the type, so that it is found from the proof; a certificate is a sum of
-- products of such facts

pub record NN (ρ : List ℤ) (e : E) : Type 0 where
  pub nn : pos 0 ≤ℤ den ρ e

pub hyp : {ρ : List ℤ} (a b : E) → den ρ a ≤ℤ den ρ b → NN ρ (b ⊖ a)
hyp {ρ} a b h = record { nn = diff-of-≤ℤ (den ρ a) (den ρ b) h }

pub hyp< : {ρ : List ℤ} (a b : E) → den ρ a <ℤ den ρ b → NN ρ (b ⊖ (a ⊕ # 1))
hyp< {ρ} a b h = record { nn = diff-of-≤ℤ (den ρ a +ℤ pos 1) (den ρ b) (<ℤ-suc (den ρ a) (den ρ b) h) }

infixl 6 ◌⊞◌
infixl 7 ◌⊛◌ ◌·◌
pub ◌⊞◌ : {ρ : List ℤ} {a b : E} → NN ρ a → NN ρ b → NN ρ (a ⊕ b)
h ⊞ k = record { nn = nonneg-+ h.nn k.nn }

pub ◌⊛◌ : {ρ : List ℤ} {a b : E} → NN ρ a → NN ρ b → NN ρ (a ⊗ b)
h ⊛ k = record { nn = nonneg-* h.nn k.nn }

pub ◌·◌ : {ρ : List ℤ} {a : E} (n : ℕ) → NN ρ a → NN ρ (# n ⊗ a)
n · h = record { nn = nonneg-* (nonneg n) h.nn }

pub sqr : {ρ : List ℤ} (a : E) → NN ρ (a ⊗ a)
sqr {ρ} a = record { nn = nonneg_sq (den ρ a) }

-- (k + 1) · (R − L) + k is the certificate and a constant that is not negative: so L ≤ R
pub cert : (ρ : List ℤ) (L R : E) (k : ℕ) {w : E} → NN ρ w → T (nonn (norm (# (suc k) ⊗ (R ⊖ L) ⊕ # k ⊖ w))) → den ρ L ≤ℤ den ρ R
cert ρ L R k {w} h t =
    let s : pos 0 ≤ℤ den ρ (# (suc k) ⊗ (R ⊖ L) ⊕ # k ⊖ w) =
    subst (λ z. pos 0 ≤ℤ z) (sym (norm_sound (# (suc k) ⊗ (R ⊖ L) ⊕ # k ⊖ w) ρ)) (ev_nonn (norm (# (suc k) ⊗ (R ⊖ L) ⊕ # k ⊖ w)) ρ t) in
    divided k (den ρ L) (den ρ R) (≤ℤ-trans h.nn (≤ℤ-of-diff (den ρ w) (den ρ (# (suc k) ⊗ (R ⊖ L) ⊕ # k)) s))

-- the same for <
pub cert< : (ρ : List ℤ) (L R : E) (k : ℕ) {w : E} → NN ρ w → T (nonn (norm (# (suc k) ⊗ (R ⊖ (L ⊕ # 1)) ⊕ # k ⊖ w))) → den ρ L <ℤ den ρ R
cert< ρ L R k h t = suc-<ℤ (den ρ L) (den ρ R) (cert ρ (L ⊕ # 1) R k h t)
