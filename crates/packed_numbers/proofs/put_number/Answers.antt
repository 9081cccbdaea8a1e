-- `put_number` meets its contract. Assumes nothing.
use Rattle.std.proofs.lemmas.Result.{err_from_is_err_and}
use Rattle.packed_numbers.proofs.Encode.{no_room, with_room}
use Rattle.packed_numbers.proofs.put_number.Goals as goal

pub returns-in_err-check_room : goal.returns-in_err-check_room
returns-in_err-check_room c =
    let p = err_from_is_err_and c.from_residual.result c.from_residual.ensures.1 in
    let h = c.in_err-check_room.ensures in
    rw (p.1, p.2) (no_room _ _ _ _ _ c.groups_of.ensures h)

pub returns : goal.returns
returns c =
    let w = c.put_groups.ensures in
    with_room _ _ _ _ _ (rw c.groups_of.ensures at c.in_ok-check_room.ensures) w.0 w.1
