-- The exact test worked with each figure once, as a number, before it is used: what it decides is the test. Assumes nothing.
use mathlib.Core.Path.{◌≡◌, refl, sym, ◌∙◌, subst}
use mathlib.Core.Bool.{Bool, true, false, cond}
use Prim.Native.Nat.{ℕ, zero, suc}
use lib.IntN.{ℤ, pos, negsuc, ◌*ℤ◌}
use lib.Dec.{T}
use lib.Signed.{le_z, lt_z}
use Rattle.integers.specs.Order.{◌≺◌}
use Rattle.integers.specs.Fractions.{Fraction, ◌*ᶠ◌, ◌-ᶠ◌, negᶠ, ◌≤ᶠ◌}
use Rattle.separation.specs.Exact.{ExactCoordinates, Vectorᶠ, cosᶠ, sinᶠ, exact_place, exact_sun, exact_geocentric, dotᶠ, cosine_of_arcminutes}
use Rattle.separation.specs.Exact.{ExactTest, WithinArcminutes}

-- A number is worked out before it is handed on.
unfoldable pub natural_first : ℕ → (ℕ → Bool) → Bool
natural_first zero k = k 0
natural_first (suc n) k = k (suc n)

unfoldable pub whole_first : ℤ → (ℤ → Bool) → Bool
whole_first (pos n) k = natural_first n (λ m. k (pos m))
whole_first (negsuc n) k = natural_first n (λ m. k (negsuc m))

unfoldable pub forced : Fraction → (Fraction → Bool) → Bool
forced f k = whole_first f.upper (λ u. whole_first f.lower (λ l. k (record { upper = u; lower = l })))

natural_first_is : (n : ℕ) (k : ℕ → Bool) → natural_first n k ≡ k n
unfolding natural_first
natural_first_is zero k = refl
natural_first_is (suc n) k = refl

whole_first_is : (n : ℤ) (k : ℤ → Bool) → whole_first n k ≡ k n
unfolding whole_first
whole_first_is (pos n) k = natural_first_is n (λ m. k (pos m))
whole_first_is (negsuc n) k = natural_first_is n (λ m. k (negsuc m))

forced_is : (f : Fraction) (k : Fraction → Bool) → forced f k ≡ k f
unfolding forced
forced_is f k =
    whole_first_is f.upper (λ u. whole_first f.lower (λ l. k (record { upper = u; lower = l })))
    ∙ whole_first_is f.lower (λ l. k (record { upper = f.upper; lower = l }))

-- The two facts of the test, of its two sides and of the scalar product.
unfoldable pub tested : Fraction → Fraction → Fraction → Bool
tested near far product = cond (lt_z (pos 0) product.upper) (le_z (near.upper *ℤ far.lower) (far.upper *ℤ near.lower)) false

unfoldable pub plain : ℕ → Vectorᶠ → Vectorᶠ → Bool
plain k s g =
    tested (cosine_of_arcminutes k *ᶠ cosine_of_arcminutes k *ᶠ (dotᶠ s s *ᶠ dotᶠ g g)) (dotᶠ s g *ᶠ dotᶠ s g) (dotᶠ s g)

unfoldable pub decided : ℕ → ExactCoordinates → ExactCoordinates → Bool
decided k c d =
    forced c.longitude (λ pl.
    forced c.latitude (λ pb.
    forced c.radius (λ pr.
    forced d.longitude (λ el.
    forced d.latitude (λ eb.
    forced d.radius (λ er.
    forced (cosᶠ pl) (λ cpl.
    forced (sinᶠ pl) (λ spl.
    forced (cosᶠ pb) (λ cpb.
    forced (sinᶠ pb) (λ spb.
    forced (cosᶠ el) (λ cel.
    forced (sinᶠ el) (λ sel.
    forced (cosᶠ eb) (λ ceb.
    forced (sinᶠ eb) (λ seb.
    forced (pr *ᶠ cpb *ᶠ cpl) (λ px.
    forced (pr *ᶠ cpb *ᶠ spl) (λ py.
    forced (pr *ᶠ spb) (λ pz.
    forced (er *ᶠ ceb *ᶠ cel) (λ ex.
    forced (er *ᶠ ceb *ᶠ sel) (λ ey.
    forced (er *ᶠ seb) (λ ez.
    forced (px -ᶠ ex) (λ gx.
    forced (py -ᶠ ey) (λ gy.
    forced (pz -ᶠ ez) (λ gz.
    forced (dotᶠ (record { x = negᶠ ex; y = negᶠ ey; z = negᶠ ez }) (record { x = negᶠ ex; y = negᶠ ey; z = negᶠ ez })) (λ ss.
    forced (dotᶠ (record { x = gx; y = gy; z = gz }) (record { x = gx; y = gy; z = gz })) (λ gg.
    forced (dotᶠ (record { x = negᶠ ex; y = negᶠ ey; z = negᶠ ez }) (record { x = gx; y = gy; z = gz })) (λ sg.
    forced (cosine_of_arcminutes k) (λ ck.
    tested (ck *ᶠ ck *ᶠ (ss *ᶠ gg)) (sg *ᶠ sg) sg)))))))))))))))))))))))))))

decided_is : (k : ℕ) (c d : ExactCoordinates) → decided k c d ≡ plain k (exact_sun d) (exact_geocentric c d)
unfolding decided plain exact_sun exact_geocentric exact_place
decided_is k c d =
    forced_is _ _ ∙ forced_is _ _ ∙ forced_is _ _ ∙ forced_is _ _ ∙ forced_is _ _ ∙ forced_is _ _ ∙ forced_is _ _
    ∙ forced_is _ _ ∙ forced_is _ _ ∙ forced_is _ _ ∙ forced_is _ _ ∙ forced_is _ _ ∙ forced_is _ _ ∙ forced_is _ _
    ∙ forced_is _ _ ∙ forced_is _ _ ∙ forced_is _ _ ∙ forced_is _ _ ∙ forced_is _ _ ∙ forced_is _ _ ∙ forced_is _ _
    ∙ forced_is _ _ ∙ forced_is _ _ ∙ forced_is _ _ ∙ forced_is _ _ ∙ forced_is _ _ ∙ forced_is _ _

-- A test and a second one.
both_true : (a b : Bool) → cond a b false ≡ true → (a ≡ true) × (b ≡ true)
both_true true b e = (refl, e)
both_true false b e = (e, absurd_true e)
  where
    absurd_true : false ≡ true → b ≡ true
    absurd_true e = cc

both_hold : (a b : Bool) → T a → T b → cond a b false ≡ true
both_hold true true h k = refl
both_hold true false h k = absurd k
both_hold false b h k = absurd h

told : (near far product : Fraction) → tested near far product ≡ true → (pos 0 ≺ product.upper) × (near ≤ᶠ far)
unfolding tested
told near far product e =
    let h = both_true (lt_z (pos 0) product.upper) (le_z (near.upper *ℤ far.lower) (far.upper *ℤ near.lower)) e in
    (record { lt = subst T (sym h.0) tt }, record { le = subst T (sym h.1) tt })

tells : (near far product : Fraction) → pos 0 ≺ product.upper → near ≤ᶠ far → tested near far product ≡ true
unfolding tested
tells near far product h k = both_hold (lt_z (pos 0) product.upper) (le_z (near.upper *ℤ far.lower) (far.upper *ℤ near.lower)) h.lt k.le

plain_told : (k : ℕ) (s g : Vectorᶠ) → plain k s g ≡ true → ExactTest k s g
unfolding plain
plain_told k s g e =
    let h = told (cosine_of_arcminutes k *ᶠ cosine_of_arcminutes k *ᶠ (dotᶠ s s *ᶠ dotᶠ g g)) (dotᶠ s g *ᶠ dotᶠ s g) (dotᶠ s g) e in
    record { ahead = h.0; close = h.1 }

plain_tells : (k : ℕ) (s g : Vectorᶠ) → ExactTest k s g → plain k s g ≡ true
unfolding plain
plain_tells k s g h =
    tells (cosine_of_arcminutes k *ᶠ cosine_of_arcminutes k *ᶠ (dotᶠ s s *ᶠ dotᶠ g g)) (dotᶠ s g *ᶠ dotᶠ s g) (dotᶠ s g) h.ahead h.close

pub within : (k : ℕ) (c d : ExactCoordinates) → decided k c d ≡ true → WithinArcminutes k c d
within k c d e = plain_told k (exact_sun d) (exact_geocentric c d) (sym (decided_is k c d) ∙ e)

differ : false ≡ true → ⊥
differ e = subst T (sym e) tt

pub not_within : (k : ℕ) (c d : ExactCoordinates) → decided k c d ≡ false → WithinArcminutes k c d → ⊥
not_within k c d e h = differ (sym e ∙ (decided_is k c d ∙ plain_tells k (exact_sun d) (exact_geocentric c d) h))
