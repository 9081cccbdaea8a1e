-- `series_lines::writer::WrittenSink::put_term` meets its contract. Assumes nothing.
use native.Mathlib.Omega.{arith}
use Rattle.std.proofs.lemmas.Result.{err_from_is_err_and}
use Rattle.series_lines.specs.Machine.Modes.{has_room, kept_out}
use Rattle.series_lines.proofs.WrittenTerm.{put_full, put_next}
use Rattle.series_lines.proofs.writer.WrittenSink.put_term.Goals as goal

pub put-requires : goal.put-requires
put-requires c = let n = c.length.ensures in omega (arith, c.in_ok-check_room.ensures, n)

pub returns-in_err-check_room : goal.returns-in_err-check_room
unfolding has_room kept_out
returns-in_err-check_room c =
    let p = err_from_is_err_and c.from_residual.result c.from_residual.ensures.1 in
    let n = rw c.of_line-numbers.ensures at c.length.ensures in
    rw (p.1, p.2) (put_full _ _ _ _ _ n c.in_err-check_room.ensures)

pub returns : goal.returns
unfolding has_room kept_out
returns c =
    let p = rw c.of_line-numbers.ensures at c.put.ensures in
    let n = rw c.of_line-numbers.ensures at c.length.ensures in
    put_next _ _ _ _ _ (omega (arith, c.in_ok-check_room.ensures, n)) p.0 p.1
