-- `published_headings::writer::put_missing` meets its contract. Assumes nothing.
use mathlib.Core.Path.{sym, ap, ◌∙◌}
use Prim.Native.Nat.{ℕ, ◌+◌}
use native.Mathlib.Omega.{arith}
use Rattle.std.proofs.lemmas.Result.{err_from_is_err_and}
use Rattle.series_lines.proofs.WrittenTerm.{put_full, put_next}
use Rattle.published_headings.proofs.Zeros.{length_zeros}
use Rattle.published_headings.proofs.writer.put_missing.Goals as goal

pub returns-in_err-check_room : goal.returns-in_err-check_room
returns-in_err-check_room c =
    let p = err_from_is_err_and c.from_residual.result c.from_residual.ensures.1 in
    rw (p.1, p.2) (put_full _ _ _ _ _ (sym (length_zeros c.args.n)) c.in_err-check_room.ensures)

pub returns : goal.returns
returns c =
    let a = c.args in
    let z = c.put_zeros.ensures in
    let l = length_zeros a.n in
    put_next _ _ _ _ _ (omega (arith, l, c.in_ok-check_room.ensures)) (z.0 ∙ ap (λ (k : ℕ). a.at + k) (sym l)) z.1
