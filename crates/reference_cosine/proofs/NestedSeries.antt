-- The nested series h(ds, Z/D) as a fraction: h([]) = 1, h(d ∷ ds) = 1 − (Z/D)·h(ds)/d. Its range and its Lipschitz bound. Assumes nothing.
use mathlib.Core.Path.{◌≡◌, sym, subst₂, subst₃}
use mathlib.Core.List.{List, [], ◌∷◌}
use Prim.Native.Nat.{ℕ, suc, ◌*◌, ◌+◌, ◌/◌, ◌%◌, ◌<◌}
use native.Mathlib.Omega.{arith}
use native.Mathlib.Nat.{div-add-mod, mod-lt}
use lib.IntN.{ℤ, pos, ◌+ℤ◌, ◌-ℤ◌, ◌*ℤ◌}
use Rattle.integers.specs.Order.{◌≼◌, ◌≺◌}
use Rattle.integers.proofs.Pairs.{nonneg, *ℤ-assoc}
use Rattle.integers.proofs.Auto.{ring!, cert!, cert<!, polys, gap, gap<, ◌⊞◌, ◌⊛◌, ◌·◌}
use Rattle.integers.proofs.Order.{≺-≼, ≼-nat}

-- the lower number, and the upper one
unfoldable pub low : ℤ → List ℕ → ℤ
low D [] = pos 1
low D (d ∷ ds) = pos d *ℤ D *ℤ low D ds

unfoldable pub up : ℤ → ℤ → List ℕ → ℤ
unfolding low
up D Z [] = pos 1
up D Z (d ∷ ds) = pos d *ℤ D *ℤ low D ds -ℤ Z *ℤ up D Z ds

-- no divisor is 0
abbrev pub Good : List ℕ → Type 0
Good [] = Unit
Good (d ∷ ds) = (0 < d) × Good ds

-- ---- the range

pub record Range (D Z : ℤ) (ds : List ℕ) : Type 0 where
  pub above : pos 0 ≺ low D ds
  pub least : pos 0 ≼ up D Z ds
  pub most : up D Z ds ≼ low D ds

above_step : (d D l : ℤ) → pos 1 ≼ d → pos 0 ≺ D → pos 0 ≺ l → pos 0 ≺ d *ℤ D *ℤ l
above_step d D l hd hD hl =
    cert<! (d ∷ D ∷ l ∷ []) 0 ((gap hd ⊞ nonneg 1) ⊛ (gap< hD ⊞ nonneg 1) ⊛ gap< hl ⊞ (gap hd ⊞ nonneg 1) ⊛ gap< hD ⊞ gap hd)
    (search polys depth 60 fits 100000) tt

least_step : (d D Z l u : ℤ) → pos 1 ≼ d → pos 0 ≼ D → pos 0 ≼ l → Z ≼ D → pos 0 ≼ u → u ≼ l → pos 0 ≼ d *ℤ D *ℤ l -ℤ Z *ℤ u
least_step d D Z l u hd hD hl hZ hu hul =
    cert! (d ∷ D ∷ Z ∷ l ∷ u ∷ []) 0 (gap hd ⊛ hD ⊛ hl ⊞ hD ⊛ gap hul ⊞ gap hZ ⊛ hu) (search polys depth 60 fits 100000) tt

most_step : (m Z u : ℤ) → pos 0 ≼ Z → pos 0 ≼ u → m -ℤ Z *ℤ u ≼ m
most_step m Z u hZ hu = cert! (m ∷ Z ∷ u ∷ []) 0 (hZ ⊛ hu) (search polys depth 60 fits 100000) tt

pub range : (D Z : ℤ) (ds : List ℕ) → Good ds → pos 0 ≺ D → pos 0 ≼ Z → Z ≼ D → Range D Z ds
unfolding low up
range D Z [] g hD h k = record { above = record { lt = tt }; least = record { le = tt }; most = record { le = tt } }
range D Z (d ∷ ds) g hD h k =
    let r = range D Z ds g.1 hD h k in
    let hd : pos 1 ≼ pos d = ≼-nat 1 d g.0 in
    record {
      above = above_step (pos d) D (low D ds) hd hD r.above;
      least = least_step (pos d) D Z (low D ds) (up D Z ds) hd (≺-≼ hD) (≺-≼ r.above) k r.least r.most;
      most =
          most_step (pos d *ℤ D *ℤ low D ds) Z (up D Z ds) h r.least;
    }

-- ---- the Lipschitz bound. In millionths: lam [] = 0, lam (d ∷ ds) is above (1 + 0.617·lam ds) / d
unfoldable pub lam : List ℕ → ℕ
lam [] = 0
lam (d ∷ ds) = suc ((1000000000 + 617 * lam ds) / (1000 * d))

-- the step, over products that stand for themselves: P = Z'D, R = ZD', a = u'l, b = ul', E = DD', M = ll'
lip_core : (d P R a b E M f g k k' : ℤ) → pos 0 ≼ P → pos 1000 *ℤ P ≼ pos 617 *ℤ E → pos 0 ≼ b → b ≼ M → pos 0 ≼ E → pos 0 ≼ M → pos 0 ≼ f → pos 0 ≼ k
    → g *ℤ (P -ℤ R) ≼ f *ℤ E → pos 1000000 *ℤ g *ℤ (a -ℤ b) ≼ k *ℤ f *ℤ M → pos 1000000000 +ℤ pos 617 *ℤ k ≼ pos 1000 *ℤ d *ℤ k'
    → pos 1000000 *ℤ g *ℤ (P *ℤ a -ℤ R *ℤ b) ≼ d *ℤ k' *ℤ f *ℤ (E *ℤ M)
lip_core d P R a b E M f g k k' hP hm hb hbM hE hM hf hk hZ ih hc =
    cert! (d ∷ P ∷ R ∷ a ∷ b ∷ E ∷ M ∷ f ∷ g ∷ k ∷ k' ∷ []) 999
    (hf ⊛ hE ⊛ hM ⊛ gap hc ⊞ 1000 · (hP ⊛ gap ih) ⊞ 1000000000 · (hb ⊛ gap hZ) ⊞ hk ⊛ hf ⊛ hM ⊛ gap hm ⊞ 1000000000 · (hf ⊛ hE ⊛ gap hbM))
    (search polys depth 60 fits 100000) tt

lip_scale : (d L L' X X' f g k' : ℤ) → pos 0 ≼ d → pos 1000000 *ℤ g *ℤ (X' *ℤ L -ℤ X *ℤ L') ≼ d *ℤ k' *ℤ f *ℤ (L *ℤ L')
    → pos 1000000 *ℤ g *ℤ ((d *ℤ L -ℤ X) *ℤ (d *ℤ L') -ℤ (d *ℤ L' -ℤ X') *ℤ (d *ℤ L)) ≼ k' *ℤ f *ℤ (d *ℤ L *ℤ (d *ℤ L'))
lip_scale d L L' X X' f g k' hd h = cert! (d ∷ L ∷ L' ∷ X ∷ X' ∷ f ∷ g ∷ k' ∷ []) 0 (hd ⊛ gap h) (search polys depth 60 fits 100000) tt

cross : (Z' D u' l : ℤ) → Z' *ℤ D *ℤ (u' *ℤ l) ≡ Z' *ℤ u' *ℤ (D *ℤ l)
cross Z' D u' l = ring! (Z' ∷ D ∷ u' ∷ l ∷ []) (search polys depth 60 fits 100000) tt

factor_le : (D Z' D' : ℤ) → pos 0 ≼ D → pos 1000 *ℤ Z' ≼ pos 617 *ℤ D' → pos 1000 *ℤ (Z' *ℤ D) ≼ pos 617 *ℤ (D *ℤ D')
factor_le D Z' D' hD h = cert! (D ∷ Z' ∷ D' ∷ []) 0 (hD ⊛ gap h) (search polys depth 60 fits 100000) tt

factor_le' : (u l l' : ℤ) → pos 0 ≼ l' → u ≼ l → u *ℤ l' ≼ l *ℤ l'
factor_le' u l l' h k = cert! (u ∷ l ∷ l' ∷ []) 0 (gap k ⊛ h) (search polys depth 60 fits 100000) tt

lip_step : (d D D' Z Z' l l' u u' f g k k' : ℤ) → pos 0 ≼ d → pos 0 ≼ D → pos 0 ≼ D' → pos 0 ≼ l → pos 0 ≼ l' → pos 0 ≼ u → u ≼ l → pos 0 ≼ Z'
    → pos 1000 *ℤ Z' ≼ pos 617 *ℤ D'
    → pos 0 ≼ f → pos 0 ≼ k → g *ℤ (Z' *ℤ D -ℤ Z *ℤ D') ≼ f *ℤ (D *ℤ D')
    → pos 1000000 *ℤ g *ℤ (u' *ℤ l -ℤ u *ℤ l') ≼ k *ℤ f *ℤ (l *ℤ l')
    → pos 1000000000 +ℤ pos 617 *ℤ k ≼ pos 1000 *ℤ d *ℤ k'
    → pos 1000000 *ℤ g *ℤ ((d *ℤ D *ℤ l -ℤ Z *ℤ u) *ℤ (d *ℤ D' *ℤ l') -ℤ (d *ℤ D' *ℤ l' -ℤ Z' *ℤ u') *ℤ (d *ℤ D *ℤ l))
    ≼ k' *ℤ f *ℤ (d *ℤ D *ℤ l *ℤ (d *ℤ D' *ℤ l'))
lip_step d D D' Z Z' l l' u u' f g k k' hd hD hD' hl hl' hu hul hZ' hm hf hk hZ ih hc =
    let core = lip_core d (Z' *ℤ D) (Z *ℤ D') (u' *ℤ l) (u *ℤ l') (D *ℤ D') (l *ℤ l') f g k k' (hZ' ⊛ hD) (factor_le D Z' D' hD hm) (hu ⊛ hl')
    (factor_le' u l l' hl' hul) (hD ⊛ hD') (hl ⊛ hl') hf hk hZ ih hc in
    let moved : pos 1000000 *ℤ g *ℤ (Z' *ℤ u' *ℤ (D *ℤ l) -ℤ Z *ℤ u *ℤ (D' *ℤ l')) ≼ d *ℤ k' *ℤ f *ℤ (D *ℤ l *ℤ (D' *ℤ l')) =
    subst₃ (λ x y z. pos 1000000 *ℤ g *ℤ (x -ℤ y) ≼ d *ℤ k' *ℤ f *ℤ z) (cross Z' D u' l) (cross Z D' u l') (cross D D' l l') core in
    subst₂ (λ m m'. pos 1000000 *ℤ g *ℤ ((m -ℤ Z *ℤ u) *ℤ m' -ℤ (m' -ℤ Z' *ℤ u') *ℤ m) ≼ k' *ℤ f *ℤ (m *ℤ m')) (sym (*ℤ-assoc d D l)) (sym (*ℤ-assoc d D' l'))
    (lip_scale d (D *ℤ l) (D' *ℤ l') (Z *ℤ u) (Z' *ℤ u') f g k' hd moved)

-- Z/D is from 0 to 0.617
pub record Small (D Z : ℤ) : Type 0 where
  pub positive : pos 0 ≺ D
  pub not_neg : pos 0 ≼ Z
  pub small : pos 1000 *ℤ Z ≼ pos 617 *ℤ D

small_le : {D Z : ℤ} → Small D Z → Z ≼ D
small_le {D} {Z} s = cert! (D ∷ Z ∷ []) 999 (gap s.small ⊞ 383 · gap< s.positive) (search polys depth 60 fits 100000) tt

pub range' : {D Z : ℤ} (ds : List ℕ) → Good ds → Small D Z → Range D Z ds
range' {D} {Z} ds g s = range D Z ds g s.positive s.not_neg (small_le s)

lam_step : (d k : ℕ) → 0 < d → pos 1000000000 +ℤ pos 617 *ℤ pos k ≼ pos 1000 *ℤ pos d *ℤ pos (suc ((1000000000 + 617 * k) / (1000 * d)))
lam_step d k h =
    let n = 1000000000 + 617 * k in
    let e = div-add-mod n (1000 * d) in
    let l : n % (1000 * d) < 1000 * d = mod-lt n (omega arith) in
    ≼-nat (1000000000 + 617 * k) (1000 * d * suc (n / (1000 * d))) (omega arith)

flip : (k f g u l u' l' : ℤ) → pos 1000000 *ℤ g *ℤ (u' *ℤ l -ℤ u *ℤ l') ≼ k *ℤ f *ℤ (l' *ℤ l) → pos 1000000 *ℤ g *ℤ (u' *ℤ l -ℤ u *ℤ l') ≼ k *ℤ f *ℤ (l *ℤ l')
flip k f g u l u' l' h = cert! (k ∷ f ∷ g ∷ u ∷ l ∷ u' ∷ l' ∷ []) 0 (gap h) (search polys depth 60 fits 100000) tt

pub lip : (ds : List ℕ) → Good ds → (D D' Z Z' f g : ℤ) → Small D Z → Small D' Z' → pos 0 ≼ f
    → g *ℤ (Z' *ℤ D -ℤ Z *ℤ D') ≼ f *ℤ (D *ℤ D') → g *ℤ (Z *ℤ D' -ℤ Z' *ℤ D) ≼ f *ℤ (D' *ℤ D)
    → pos 1000000 *ℤ g *ℤ (up D Z ds *ℤ low D' ds -ℤ up D' Z' ds *ℤ low D ds) ≼ pos (lam ds) *ℤ f *ℤ (low D ds *ℤ low D' ds)
unfolding low up lam
lip [] _ D D' Z Z' f g s s' hf h h' = cert! (f ∷ g ∷ []) 0 (nonneg 0) (search polys depth 60 fits 100000) tt
lip (d ∷ ds) good D D' Z Z' f g s s' hf h h' =
    let r = range' ds good.1 s in
    let r' = range' ds good.1 s' in
    lip_step (pos d) D D' Z Z' (low D ds) (low D' ds) (up D Z ds) (up D' Z' ds) f g (pos (lam ds)) (pos (suc ((1000000000 + 617 * lam ds) / (1000 * d))))
    (nonneg d) (≺-≼ s.positive) (≺-≼ s'.positive) (≺-≼ r.above) (≺-≼ r'.above) r.least r.most s'.not_neg s'.small hf (nonneg (lam ds)) h
    (flip (pos (lam ds)) f g (up D Z ds) (low D ds) (up D' Z' ds) (low D' ds) (lip ds good.1 D' D Z' Z f g s' s hf h' h))
    (lam_step d (lam ds) good.0)
