-- `published_headings::writer::put_heading` meets its contract. Assumes nothing.
use mathlib.Core.Path.{◌≡◌, sym, ap, ◌∙◌}
use mathlib.Core.List.{◌++◌}
use Prim.Native.Nat.{ℕ, ◌+◌}
use native.Mathlib.Omega.{arith}
use lib.ListN.{length}
use Rattle.packed_numbers.specs.Numbers.{encode}
use Rattle.packed_numbers.proofs.Encode.{encode_short}
use Rattle.std.proofs.lemmas.Result.{err_from_is_err_and}
use Rattle.series_lines.proofs.WrittenTerm.{put_full, put_next}
use Rattle.published_headings.specs.Judge.{zeros}
use Rattle.published_headings.proofs.Zeros.{heading_length, heading_stored}
use Rattle.published_headings.proofs.writer.put_heading.Goals as goal

pub overflow_add-missing : goal.overflow_add-missing
overflow_add-missing c = omega (arith, encode_short c.args.n, c.requires, c.groups_of.ensures)

pub returns-in_err-check_room : goal.returns-in_err-check_room
returns-in_err-check_room c =
    let a = c.args in
    let p = err_from_is_err_and c.from_residual.result c.from_residual.ensures.1 in
    let l = ap (λ (k : ℕ). a.missing + k) c.groups_of.ensures ∙ sym (heading_length a.missing a.n) in
    rw (p.1, p.2) (put_full _ _ _ _ _ l c.in_err-check_room.ensures)

pub returns : goal.returns
returns c =
    let a = c.args in
    let l = heading_length a.missing a.n in
    let e : c.put_groups.result ≡ a.at + length (zeros a.missing ++ encode a.n) =
    omega (arith, l, c.put_groups.ensures.0, c.put_zeros-next.ensures.0) in
    put_next _ _ _ _ _ (omega (arith, l, c.groups_of.ensures, c.in_ok-check_room.ensures)) e
    (heading_stored a.missing a.n _ _ _ a.at _ c.put_zeros-next.ensures.1 c.put_zeros-next.ensures.0 c.put_groups.ensures.1)
