-- `position_lines::answer::place_at` meets its contract. Assumes nothing.
use Rattle.std.proofs.Common.{sym}
use Rattle.std.proofs.lemmas.Result.{err_from_is_err_and}
use Rattle.place.specs.Mount.{Small}
use Rattle.place.proofs.Answers.{figures_ask}
use Rattle.position_lines.proofs.WrittenPosition.{at_instant, no_instant, if_answered}
use Rattle.position_lines.proofs.answer.place_at.Goals as goal

pub returns-in_err-t : goal.returns-in_err-t
returns-in_err-t c =
    let p = err_from_is_err_and c.from_residual.result c.from_residual.ensures.1 in
    record { told = rw (p.1, p.2) (no_instant _ _ _ _ (sym c.in_err-t.ensures)); small = rw p.1 tt }

pub returns : goal.returns
returns c = record {
  told = at_instant _ _ _ _ _ (sym c.in_ok-t.ensures) c.apparent_place.ensures;
  small = if_answered c.apparent_place.result Small
      (λ p e. figures_ask c.args.planet.now c.args.earth.now c.in_ok-t.t c.apparent_place.result c.apparent_place.ensures p e);
}
