-- `units::Refusal::of_number` meets its contract. Assumes nothing.
use Rattle.units.proofs.Refusals.{read_back}
use Rattle.units.proofs.Refusal.of_number.Goals as goal

pub returns : goal.returns
returns c =
    let a = c.args in
    rw (c.at.ensures, c.unwrap_or.ensures) (read_back a.number a.at c.try_from.result c.try_from.ensures)
