-- `nutation::rows::RowAt::terms` meets its contract. Assumes nothing.
use mathlib.Core.Path.{◌≡◌, ◌∙◌}
use lib.Dec.{lit<}
use lib.IntN.{ℤ, ◌*ℤ◌}
use mir.Syntax.{w64}
use mir.Val.{SFits}
use Rattle.integers.specs.Division.{rounded}
use Rattle.arith.proofs.Cells.{Cell, held_le}
use Rattle.arith.proofs.Signs.{back, ok}
use Rattle.units.specs.Units.{U, t_limit}
use Rattle.reference_cosine.proofs.Ranges.{cosine_size, sine_size}
use Rattle.nutation_table.specs.Machine.Small.{figure_limit, rate_limit}
use Rattle.nutation.specs.Nutation.{coefficient, longitude_term, obliquity_term}
use Rattle.nutation.proofs.Terms.{same_small, kept}
use Rattle.nutation.proofs.rows.RowAt.terms.Goals as goal

-- a term by figures as they are handed on, and by the row's own
term_is : (t first rate w v : ℤ) {r : ℤ} → Cell t ≡ t → Cell first ≡ first → Cell rate ≡ rate → Cell w ≡ v → SFits w64 r
    → r ≡ rounded (coefficient (Cell t) (Cell first) (Cell rate) *ℤ Cell w) U → Cell r ≡ rounded (coefficient t first rate *ℤ v) U
term_is t first rate w v {r} e f g h k q = back r k ∙ (rw (e, f, g, h) at q)

pub term-requires : goal.term-requires
term-requires c =
    let s = c.args.self in (
      held_le s.t t_limit (lit< tt) s.in_limit,
      held_le s.row.0 figure_limit (lit< tt) s.small.psi_small,
      held_le s.row.1 rate_limit (lit< tt) s.small.psi_rate_small,
      held_le c.trig-w.result.sin U (lit< tt) (same_small _ _ _ c.trig-w.ensures.1 (sine_size _)),
    )

pub term-requires-2 : goal.term-requires-2
term-requires-2 c =
    let s = c.args.self in (
      held_le s.t t_limit (lit< tt) s.in_limit,
      held_le s.row.2 figure_limit (lit< tt) s.small.eps_small,
      held_le s.row.3 rate_limit (lit< tt) s.small.eps_rate_small,
      held_le c.trig-w.result.cos U (lit< tt) (same_small _ _ _ c.trig-w.ensures.0 (cosine_size _)),
    )

pub returns : goal.returns
unfolding longitude_term obliquity_term
returns c =
    let s = c.args.self in
    let t = kept s.t t_limit (lit< tt) s.in_limit in
    let v = c.trig-w.result in (
      term_is s.t s.row.0 s.row.1 v.sin _ t (kept s.row.0 _ (lit< tt) s.small.psi_small) (kept s.row.1 _ (lit< tt) s.small.psi_rate_small)
          (kept v.sin U (lit< tt) (same_small _ _ _ c.trig-w.ensures.1 (sine_size _)) ∙ c.trig-w.ensures.1) (ok c.term.type_inv) c.term.ensures,
      term_is s.t s.row.2 s.row.3 v.cos _ t (kept s.row.2 _ (lit< tt) s.small.eps_small) (kept s.row.3 _ (lit< tt) s.small.eps_rate_small)
          (kept v.cos U (lit< tt) (same_small _ _ _ c.trig-w.ensures.0 (cosine_size _)) ∙ c.trig-w.ensures.0) (ok c.term-2.type_inv) c.term-2.ensures,
    )
