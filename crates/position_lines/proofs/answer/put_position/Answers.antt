-- `put_position` meets its contract. Assumes nothing.
use Rattle.position_lines.proofs.WrittenPosition.{place_told, refusal_told}
use Rattle.position_lines.proofs.answer.put_position.Goals as goal

pub returns-in-Err : goal.returns-in-Err
returns-in-Err g c = refusal_told _ _ _ _ _ c.place_at.ensures.told c.in-Err.is c.put_refusal.ensures

pub returns-in-Ok : goal.returns-in-Ok
returns-in-Ok g c = place_told _ _ _ _ _ c.place_at.ensures.told c.in-Ok.is c.put_place.ensures
