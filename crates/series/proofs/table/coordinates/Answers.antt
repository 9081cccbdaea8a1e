-- `series::table::coordinates` meets its contract. Assumes nothing.
use mathlib.Core.Path.{◌≡◌, ap, ◌∙◌}
use mathlib.Core.Bool.{true}
use mathlib.Core.List.{List}
use Prim.Native.Nat.{◌≤◌}
use lib.IntN.{ℤ, nat_abs}
use Rattle.arith.proofs.Signs.{back, ok}
use Rattle.units.specs.Units.{t_limit}
use Rattle.units.specs.declared.Coordinates.{Coordinates}
use Rattle.limits.specs.declared.Term.{Term}
use Rattle.limits.specs.Wide.{reaches}
use Rattle.series.specs.Sums.{running_sum, coordinates, longitude_blocks, latitude_blocks, radius_blocks}
use mir.Syntax.{w64}
use mir.Val.{SFits, to_z, of_z}
use borrow.Author.Rules.{rules}
use Rattle.series.proofs.table.coordinates.Goals as goal

three : {l l' b b' r r' : ℤ} → l ≡ l' → b ≡ b' → r ≡ r'
    → ◌≡◌ {A = Coordinates} (record { longitude = l; latitude = b; radius = r }) (record { longitude = l'; latitude = b'; radius = r' })
three p q r = rw (p, q, r)

-- a coordinate worked at the prepared instant s is that at t
at_instant : (s t v : ℤ) (bs : List (List Term)) (h : SFits w64 v) → s ≡ t → v ≡ running_sum s bs → to_z w64 (of_z w64 v) ≡ running_sum t bs
at_instant s t v bs h e f = back v h ∙ f ∙ ap (λ (z : ℤ). running_sum z bs) e

-- the prepared instant s is t
in_time : {s t : ℤ} → s ≡ t → nat_abs t ≤ t_limit → nat_abs s ≤ t_limit
in_time e h = rw e h

asked : {s t : ℤ} (bs : List (List Term)) → s ≡ t → reaches bs t ≡ true → reaches bs s ≡ true
asked bs e h = rw e h

pub coordinate-longitude-requires : goal.coordinate-longitude-requires
coordinate-longitude-requires c =
    let e = c.at-p.ensures in
    (in_time e c.requires.0, c.requires.1, asked _ e c.requires.2, search rules)

pub coordinate-latitude-requires : goal.coordinate-latitude-requires
coordinate-latitude-requires c =
    let e = c.at-p.ensures in
    (in_time e c.requires.0, c.requires.1, asked _ e c.requires.2, search rules)

pub coordinate-radius-requires : goal.coordinate-radius-requires
coordinate-radius-requires c =
    let e = c.at-p.ensures in
    (in_time e c.requires.0, c.requires.1, asked _ e c.requires.2, search rules)

pub returns : goal.returns
unfolding coordinates longitude_blocks latitude_blocks radius_blocks
returns c =
    let e = c.at-p.ensures in
    three
    (at_instant _ _ _ _ (ok c.coordinate-longitude.type_inv) e c.coordinate-longitude.ensures)
    (at_instant _ _ _ _ (ok c.coordinate-latitude.type_inv) e c.coordinate-latitude.ensures)
    (at_instant _ _ _ _ (ok c.coordinate-radius.type_inv) e c.coordinate-radius.ensures)
