-- `published::Published::end_heading` meets its contract. Assumes nothing.
use Rattle.std.proofs.Common.{refl, ◌∙◌}
use Rattle.std.proofs.lemmas.Result.{err_from_is_err_and}
use Rattle.series_lines.proofs.Branches.{fault_some, wrote_refused}
use Rattle.published_headings.proofs.Judged.{no_terms_fit, skipped_fits}
use Rattle.published.specs.Reader.{heading_end}
use Rattle.published.proofs.Branches.{heading_full, heading_next}
use Rattle.published.proofs.Published.end_heading.Goals as goal

pub returns-in_err-k : goal.returns-in_err-k
returns-in_err-k c =
    let p = c.args.self in
    let e = rw c.tally-s.ensures at c.in_err-k.ensures in
    let q = err_from_is_err_and c.from_residual.result c.from_residual.ensures.1 in
    rw (q.1, q.2) (wrote_refused p.reader _ _ (heading_end p) _ e (fault_some c.in_err-k.field-0.0) refl)

pub skip_blocks-requires : goal.skip_blocks-requires
skip_blocks-requires c = no_terms_fit _ _ c.in_ok-k.ensures.1.fits

pub open_block-opened-requires : goal.open_block-opened-requires
open_block-opened-requires c = rw c.skip_blocks.ensures (skipped_fits _ _ _ _ c.in_ok-k.ensures.1.fits)

pub returns-in_default : goal.returns-in_default
returns-in_default c =
    let p = c.args.self in
    let may = rw c.tally-s.ensures at c.in_ok-k.ensures in
    heading_full p _ may.1.block may.0 _ _ _ c.in_default.ensures.1 _ c.in_default.ensures.0 refl

pub returns : goal.returns
returns c =
    let p = c.args.self in
    let may = rw c.tally-s.ensures at c.in_ok-k.ensures in
    heading_next p _ may.1.block may.0 _ _ _ c.in-Ok.ensures.1 _ c.in-Ok.ensures.0
    (c.advanced.ensures ∙ rw (c.open_block-opened.ensures, c.skip_blocks.ensures, c.tally-s.ensures))
