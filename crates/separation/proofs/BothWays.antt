-- Both halves of the core, for working unit vectors and any exact vectors close enough to them. Assumes nothing.
use mathlib.Core.Path.{refl, sym, subst}
use mathlib.Core.List.{[], ◌∷◌}
use lib.IntN.{ℤ, pos, neg_ℤ, ◌+ℤ◌, ◌-ℤ◌, ◌*ℤ◌}
use Rattle.integers.specs.Order.{◌≼◌, ◌≺◌}
use Rattle.integers.proofs.Pairs.{nonneg, ≤ℤ-trans}
use Rattle.integers.proofs.Auto.{polys, ring!, cert!, gap, ◌⊞◌, ◌⊛◌, sqr}
use Rattle.integers.proofs.Order.{≺-≼, cert*!, product_pos, factor_pos}
use Rattle.integers.specs.Fractions.{Fraction}
use Rattle.integers.proofs.Bounds.{Bd, bd_neg, bd_as}
use Rattle.rectangular.specs.declared.Vector.{Vector}
use Rattle.rectangular.specs.Vectors.{geocentric}
use Rattle.separation.proofs.Row.{eps, Row}
use Rattle.separation.proofs.Form.{dot, scl, sub, form, Bd³, apart, form_scl, dot_scl, bd³_nonneg}
use Rattle.separation.proofs.Transfer.{transfer, Passes, passes, form_low}
use Rattle.separation.proofs.Lengths.{Unit³, lengths}
use Rattle.separation.proofs.LastSteps.{turn_exact, turn_working, listed_end, clear_end, exact_end, form_nonneg}

-- a/W times s is within η/W of u, and b/W times g within ζ/W of v, in each component; η/W + ζ/W is at most eps.
pub record Close (u v s g : Vector) : Type 0 where
  pub a : ℤ
  pub b : ℤ
  pub W : ℤ
  pub η : ℤ
  pub ζ : ℤ
  pub a_pos : pos 0 ≺ a
  pub b_pos : pos 0 ≺ b
  pub W_pos : pos 0 ≺ W
  pub near_u : Bd³ η (sub (scl a s) (scl W u))
  pub near_v : Bd³ ζ (sub (scl b g) (scl W v))
  pub small : η +ℤ ζ ≼ eps *ℤ W

back : (t : ℤ) (a b : Vector) → Bd³ t (sub a b) → Bd³ t (sub b a)
unfolding geocentric
back t a b w = record { x = turn a.x b.x w.x; y = turn a.y b.y w.y; z = turn a.z b.z w.z }
  where
    turn : (p q : ℤ) → Bd t (p -ℤ q) → Bd t (q -ℤ p)
    turn p q h = bd_as t t (neg_ℤ (p -ℤ q)) (q -ℤ p) refl (ring! (p ∷ q ∷ []) (search polys depth 60 fits 100000) tt) (bd_neg t (p -ℤ q) h)

-- ---- Exact vectors over one lower number W, and a row of the table.

-- What `form_low` and `passes` say, as facts of F.
as_form : (up low t : ℤ) (s g : Vector) → up *ℤ (dot s s +ℤ dot g g) ≼ pos 2 *ℤ low *ℤ dot s g +ℤ t *ℤ low → neg_ℤ (t *ℤ low) ≼ form up low s g
unfolding form
as_form up low t s g h = cert! (up ∷ low ∷ t ∷ dot s s ∷ dot g g ∷ dot s g ∷ []) 0 (gap h) (search polys depth 60 fits 100000) tt

of_form : (up low : ℤ) (s g : Vector) → pos 0 ≼ form up low s g → up *ℤ (dot s s +ℤ dot g g) ≼ pos 2 *ℤ low *ℤ dot s g
unfolding form
of_form up low s g h = cert! (up ∷ low ∷ dot s s ∷ dot g g ∷ dot s g ∷ []) 0 h (search polys depth 60 fits 100000) tt

module _ (W η ζ : ℤ) (u v s g : Vector) (hW : pos 0 ≺ W) (hu : Unit³ u) (hv : Unit³ v) (ws : Bd³ η (sub s (scl W u))) (wg : Bd³ ζ (sub g (scl W v)))
    (small : η +ℤ ζ ≼ eps *ℤ W)
    (c : Fraction) (G T T' : ℤ) (row : Row c G T T') where
  within_listed : Passes c.upper c.lower (dot s g) (dot s s) (dot g g) → dot (sub u v) (sub u v) ≼ T
  within_listed h =
      let z = lengths W η ζ u v s g hW hu hv ws wg small in
      let up = c.upper in
      let low = c.lower in
      let t = pos 7 *ℤ eps *ℤ eps *ℤ (W *ℤ W) in
      let t₀ : pos 0 ≼ t = nonneg 118300000000 ⊛ sqr W in
      let hF : neg_ℤ (t *ℤ low) ≼ form up low s g =
      as_form up low t s g (form_low up low (dot s g) (dot s s) (dot g g) t row.positive row.at_most z.sum_pos t₀ z.even h) in
      let low₀ : pos 0 ≼ low = ≤ℤ-trans (≺-≼ row.positive) row.at_most in
      let tr =
      transfer up low (low *ℤ G *ℤ W) η ζ s g (scl W u) (scl W v) (≺-≼ row.positive) row.at_most (back η s (scl W u) ws) (back ζ g (scl W v) wg)
      (low₀ ⊛ row.some ⊛ ≺-≼ hW)
      (turn_exact up low G W (dot s s) (form up low s g) row.positive row.at_most z.X_high row.sines hF)
      (turn_exact up low G W (dot g g) (form up low s g) row.positive row.at_most z.Y_high row.sines hF) in
      listed_end up low G W (η +ℤ ζ) (form up low s g) (form up low u v) (dot u u) (dot v v) (dot (sub u v) (sub u v)) T
      row.positive row.at_most row.some hW (bd³_nonneg η (sub s (scl W u)) ws ⊞ bd³_nonneg ζ (sub g (scl W v)) wg) small hu.most hv.most
      row.reached hF
      (subst (λ (f : ℤ). pos 2 *ℤ form up low s g ≼ pos 2 *ℤ f +ℤ pos 7 *ℤ (η +ℤ ζ) *ℤ (low *ℤ G *ℤ W) +ℤ pos 6 *ℤ low *ℤ ((η +ℤ ζ) *ℤ (η +ℤ ζ)))
      (form_scl up low W u v) tr)
      (apart up low u v)

  listed_within : dot (sub u v) (sub u v) ≼ T' → Passes c.upper c.lower (dot s g) (dot s s) (dot g g)
  listed_within h =
      let z = lengths W η ζ u v s g hW hu hv ws wg small in
      let up = c.upper in
      let low = c.lower in
      let low₀ : pos 0 ≼ low = ≤ℤ-trans (≺-≼ row.positive) row.at_most in
      let f = form up low u v in
      let hF = clear_end up low G f (dot u u) (dot v v) (dot (sub u v) (sub u v)) T' row.positive row.at_most hu.least hv.least row.cleared
      (apart up low u v) h in
      let f₀ = form_nonneg low G f row.some low₀ hF in
      let turn : (a : Vector) → Unit³ a → (low *ℤ low -ℤ up *ℤ up) *ℤ dot (scl W a) (scl W a) -ℤ up *ℤ form up low (scl W u) (scl W v)
      ≼ low *ℤ G *ℤ W *ℤ (low *ℤ G *ℤ W) =
      λ (a : Vector) (ha : Unit³ a).
      subst (λ (d : ℤ). (low *ℤ low -ℤ up *ℤ up) *ℤ d -ℤ up *ℤ form up low (scl W u) (scl W v) ≼ low *ℤ G *ℤ W *ℤ (low *ℤ G *ℤ W)) (sym (dot_scl W W a a))
      (subst (λ (e : ℤ). (low *ℤ low -ℤ up *ℤ up) *ℤ (W *ℤ W *ℤ dot a a) -ℤ up *ℤ e ≼ low *ℤ G *ℤ W *ℤ (low *ℤ G *ℤ W)) (sym (form_scl up low W u v))
      (turn_working up low G W (dot a a) f row.positive row.at_most ha.most row.sines f₀)) in
      let tr =
      transfer up low (low *ℤ G *ℤ W) η ζ (scl W u) (scl W v) s g (≺-≼ row.positive) row.at_most ws wg
      (low₀ ⊛ row.some ⊛ ≺-≼ hW) (turn u hu) (turn v hv) in
      let g₀ =
      exact_end up low G W (η +ℤ ζ) (form up low s g) f row.positive row.at_most row.some hW
      (bd³_nonneg η (sub s (scl W u)) ws ⊞ bd³_nonneg ζ (sub g (scl W v)) wg) small hF
      (subst (λ (e : ℤ). pos 2 *ℤ e ≼ pos 2 *ℤ form up low s g +ℤ pos 7 *ℤ (η +ℤ ζ) *ℤ (low *ℤ G *ℤ W) +ℤ pos 6 *ℤ low *ℤ ((η +ℤ ζ) *ℤ (η +ℤ ζ)))
      (form_scl up low W u v) tr) in
      passes up low (dot s g) (dot s s) (dot g g) row.positive low₀ z.sum_pos (of_form up low s g g₀)

-- ---- The exact test does not change with the vectors' lengths.

module _ (up low : ℤ) (a b : ℤ) (s g : Vector) (ha : pos 0 ≺ a) (hb : pos 0 ≺ b) where
  longer : Passes up low (dot s g) (dot s s) (dot g g) → Passes up low (dot (scl a s) (scl b g)) (dot (scl a s) (scl a s)) (dot (scl b g) (scl b g))
  longer h = rw (dot_scl a b s g, dot_scl a a s s, dot_scl b b g g) (record {
    ahead = product_pos (a *ℤ b) (dot s g) (product_pos a b ha hb) h.ahead;
    close = cert! (up ∷ low ∷ a ∷ b ∷ dot s g ∷ dot s s ∷ dot g g ∷ []) 0 (sqr (a *ℤ b) ⊛ gap h.close) (search polys depth 60 fits 100000) tt;
  })

  shorter : Passes up low (dot (scl a s) (scl b g)) (dot (scl a s) (scl a s)) (dot (scl b g) (scl b g)) → Passes up low (dot s g) (dot s s) (dot g g)
  shorter h =
      let k : Passes up low (a *ℤ b *ℤ dot s g) (a *ℤ a *ℤ dot s s) (b *ℤ b *ℤ dot g g) = rw (dot_scl a b s g, dot_scl a a s s, dot_scl b b g g) at h in
      record {
        ahead = factor_pos (a *ℤ b) (dot s g) (≺-≼ (product_pos a b ha hb)) k.ahead;
        close =
            cert*! (up ∷ low ∷ a ∷ b ∷ dot s g ∷ dot s s ∷ dot g g ∷ []) (a *ℤ b *ℤ (a *ℤ b))
            (product_pos (a *ℤ b) (a *ℤ b) (product_pos a b ha hb) (product_pos a b ha hb))
            (gap k.close) (search polys depth 60 fits 100000) tt;
      }

-- ---- Any vectors that are close enough.

module _ (u v s g : Vector) (hu : Unit³ u) (hv : Unit³ v) (n : Close u v s g) (c : Fraction) (G T T' : ℤ) (row : Row c G T T') where
  -- The exact test gives listed.
  pub exact_listed : Passes c.upper c.lower (dot s g) (dot s s) (dot g g) → dot (sub u v) (sub u v) ≼ T
  exact_listed e =
      within_listed n.W n.η n.ζ u v (scl n.a s) (scl n.b g) n.W_pos hu hv n.near_u n.near_v n.small c G T T' row
      (longer c.upper c.lower n.a n.b s g n.a_pos n.b_pos e)

  -- Listed for two arcminutes less gives the exact test.
  pub listed_exact : dot (sub u v) (sub u v) ≼ T' → Passes c.upper c.lower (dot s g) (dot s s) (dot g g)
  listed_exact e =
      shorter c.upper c.lower n.a n.b s g n.a_pos n.b_pos
      (listed_within n.W n.η n.ζ u v (scl n.a s) (scl n.b g) n.W_pos hu hv n.near_u n.near_v n.small c G T T' row e)
