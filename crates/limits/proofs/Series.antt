-- Blocks that are good one by one, and a series within the limits: each follows from the other. Assumes nothing.
use mathlib.Core.Path.{◌≡◌, refl}
use mathlib.Core.List.{List, [], ◌∷◌}
use Prim.Native.Nat.{ℕ, zero, suc, ◌+◌, ◌≤◌, ◌<◌}
use native.Mathlib.Omega.{arith}
use lib.ListN.{length, get_or}
use Rattle.units.specs.Units.{block_limit, series_limit, total_limit, block_count, coarse_tau, coarse_base, coarse_limit}
use Rattle.limits.specs.declared.Term.{Term}
use Rattle.limits.specs.declared.Tally.{Tally}
use Rattle.limits.specs.Limits.{factor, opened, after_block, no_tally}
use Rattle.limits.specs.Allowed.{term_count, total_of, BlockFits, Allowed}
use Rattle.limits.proofs.Terms.{burden, GoodTerms, terms_fit, terms_total, terms_coarse, terms_good, summed_terms, summed_coarse}
use Rattle.limits.specs.Machine.Widened.{start}
use Rattle.limits.proofs.Coarseness.{start_within, Coarse, no_blocks, a_block, coarse_coordinate, coarse_blocks}

-- A block is good after the tally s: its count, and each of its terms.
pub record GoodBlock (k : ℕ) (s : Tally) (ts : List Term) : Type 0 where
  pub few : length ts ≤ block_limit
  pub fewer : s.terms + length ts ≤ series_limit
  pub terms : GoodTerms (factor k) (opened k (length ts) s) ts

pub data GoodBlocks : ℕ → Tally → List (List Term) → Type 0 where
  none : {k : ℕ} {s : Tally} → GoodBlocks k s []
  more : {k : ℕ} {s : Tally} {ts : List Term} {bs : List (List Term)}
      → GoodBlock k s ts → GoodBlocks (k + 1) (after_block k s ts) bs → GoodBlocks k s (ts ∷ bs)

-- The tally before and after a block's terms.
pub opened_total : (k n : ℕ) (s : Tally) → (opened k n s).total ≡ 0
unfolding opened
opened_total k n s = refl

opened_coarse : (k n : ℕ) (s : Tally) → (opened k n s).coarse ≡ start coarse_base k s.coarse
unfolding opened start
opened_coarse k n s = refl

after_terms : (k : ℕ) (s : Tally) (ts : List Term) → (after_block k s ts).terms ≡ s.terms + length ts
unfolding after_block opened
after_terms k s ts = summed_terms (factor k) (opened k (length ts) s) ts

pub after_coarse : (k : ℕ) (s : Tally) (ts : List Term) → (after_block k s ts).coarse ≡ start coarse_base k s.coarse + burden (factor k) ts
unfolding after_block
after_coarse k s ts = rw (← opened_coarse k (length ts) s) (summed_coarse (factor k) (opened k (length ts) s) ts)

-- What one good block tells.
fits_of : (k : ℕ) (s : Tally) (ts : List Term) → GoodBlock k s ts → BlockFits ts
fits_of k s ts g =
    let z = opened_total k (length ts) s in
    let t : (opened k (length ts) s).total + total_of ts ≤ total_limit = terms_total g.terms (rw z (omega arith)) in
    let u : 0 + total_of ts ≤ total_limit = rw z at t in
    record { few = g.few; terms = terms_fit g.terms; total = omega arith }

coarse_of : (k : ℕ) (s : Tally) (ts : List Term)
    → s.coarse ≤ coarse_limit → GoodBlock k s ts → start coarse_base k s.coarse + burden (factor k) ts ≤ coarse_limit
coarse_of k s ts h g =
    let o = opened_coarse k (length ts) s in
    rw (← o) (terms_coarse g.terms (rw o (start_within coarse_base k s.coarse (omega arith) h)))

-- The coarseness sum after it: no less than where the block began, and within its limit.
pub coarse_rises : (k : ℕ) (s : Tally) (ts : List Term) → start coarse_base k s.coarse ≤ (after_block k s ts).coarse
coarse_rises k s ts = rw (after_coarse k s ts) (omega arith)

pub coarse_stays : (k : ℕ) (s : Tally) (ts : List Term) → s.coarse ≤ coarse_limit → GoodBlock k s ts → (after_block k s ts).coarse ≤ coarse_limit
coarse_stays k s ts h g = rw (after_coarse k s ts) (coarse_of k s ts h g)

-- What good blocks tell.
blocks_fit : {k : ℕ} {s : Tally} {bs : List (List Term)} → GoodBlocks k s bs → (j : ℕ) → j < length bs → BlockFits (get_or bs j [])
blocks_fit none j h = absurd (omega arith)
blocks_fit {k} {s} {bs = ts ∷ bs} (more g r) zero h = fits_of k s ts g
blocks_fit {bs = ts ∷ bs} (more g r) (suc j) h = blocks_fit r j (omega arith)

blocks_few : {k : ℕ} {s : Tally} {bs : List (List Term)} → GoodBlocks k s bs → s.terms ≤ series_limit → s.terms + term_count bs ≤ series_limit
unfolding term_count
blocks_few none h = omega arith
blocks_few {k} {s} {bs = ts ∷ bs} (more g r) h =
    let e = after_terms k s ts in
    let i = blocks_few r (rw e g.fewer) in
    let m : s.terms + length ts + term_count bs ≤ series_limit = rw e at i in
    omega arith

blocks_coarse : {k : ℕ} {s : Tally} {bs : List (List Term)} → GoodBlocks k s bs → s.coarse ≤ coarse_limit → Coarse coarse_tau coarse_base k s.coarse bs
unfolding factor
blocks_coarse none h = no_blocks
blocks_coarse {k} {s} {bs = ts ∷ bs} (more g r) h =
    let e = after_coarse k s ts in
    let w = coarse_of k s ts h g in
    a_block w (rw e at (blocks_coarse r (rw e w)))

-- Good blocks, 18 of them, are a series within the limits, and back.
pub good_allowed : (bs : List (List Term)) → length bs ≡ block_count → GoodBlocks 0 no_tally bs → Allowed bs
good_allowed bs e g =
    record {
      eighteen = e;
      few = omega (arith, blocks_few g (omega arith));
      fits = λ (k : ℕ) (h : k < block_count). blocks_fit g k (rw e h);
      coarse = λ (q : ℕ) (h : q < 3). coarse_coordinate coarse_tau coarse_base (omega arith) coarse_base q bs (blocks_coarse g (omega arith));
    }

blocks_good : (k : ℕ) (s : Tally) (bs : List (List Term))
    → ((j : ℕ) → j < length bs → BlockFits (get_or bs j [])) → s.terms + term_count bs ≤ series_limit → Coarse coarse_tau coarse_base k s.coarse bs
    → GoodBlocks k s bs
unfolding term_count factor
blocks_good k s [] f h c = none
blocks_good k s (ts ∷ bs) f h (a_block w r) =
    let b = f 0 (omega arith) in
    let z = opened_total k (length ts) s in
    let o = opened_coarse k (length ts) s in
    let t = terms_good (factor k) (opened k (length ts) s) ts b.terms (rw z (omega (arith, b.total))) (rw o w) in
    more {k = k} {s = s} {ts = ts} (record { few = b.few; fewer = omega arith; terms = t })
    (blocks_good (k + 1) (after_block k s ts) bs
    (λ (j : ℕ) (l : j < length bs). f (suc j) (omega arith)) (rw (after_terms k s ts) (omega arith)) (rw (after_coarse k s ts) r))

pub allowed_good : (bs : List (List Term)) → Allowed bs → GoodBlocks 0 no_tally bs
allowed_good bs a =
    blocks_good 0 no_tally bs (λ (j : ℕ) (l : j < length bs). a.fits j (rw a.eighteen at l)) (omega (arith, a.few))
    (coarse_blocks coarse_tau coarse_base coarse_base bs a.eighteen a.coarse)
