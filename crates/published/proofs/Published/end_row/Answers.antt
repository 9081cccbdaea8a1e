-- `published::Published::end_row` meets its contract. Assumes nothing.
use Rattle.std.proofs.Common.{sym, ap, ◌∙◌, Bool, arith}
use Rattle.units.specs.Refusals.{bad_byte}
use Rattle.series_lines.proofs.Branches.{wrote_refused}
use Rattle.published_records.specs.Rows.{whole_row}
use Rattle.published.specs.Reader.{verdict}
use Rattle.published.proofs.Branches.{verdict_early}
use Rattle.published.proofs.Published.end_row.Goals as goal

pub returns-then-not-is_whole : goal.returns-then-not-is_whole
returns-then-not-is_whole c =
    let p = c.args.self in
    let early = ap (λ (t : Bool). whole_row t p.row) (sym c.kind-kind.ensures) ∙ sym c.is_whole.ensures ∙ c.if-not-is_whole.true in
    wrote_refused p.reader _ _ (verdict p) bad_byte (sym (verdict_early p early)) (λ e. omega (arith, e)) c.refused.ensures
