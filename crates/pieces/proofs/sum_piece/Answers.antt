-- `pieces::sum_piece` meets its contract. Assumes nothing.
use mathlib.Core.Path.{refl}
use Rattle.pieces.proofs.Parting.{halves_fit, halves_are, rooms_kept}
use Rattle.pieces.proofs.sum_piece.Goals as goal

pub overflow_add-result : goal.overflow_add-result
overflow_add-result c = halves_fit c.part_terms-n.ensures c.sum_half-even.result c.sum_half-odd.result c.sum_half-even.ensures c.sum_half-odd.ensures

pub returns : goal.returns
returns c =
    let p = c.part_terms-n.ensures in (
      halves_are p c.sum_half-even.result c.sum_half-odd.result c.sum_half-even.ensures c.sum_half-odd.ensures _ refl,
      rooms_kept p,
    )
