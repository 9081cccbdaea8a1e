-- `published_headings::judge::Heading::judge` meets its contract. Assumes nothing.
use Rattle.std.proofs.Common.{◌≡◌, true, sym, ◌∙◌}
use Rattle.limits.specs.Limits.{count_fits}
use Rattle.published_headings.specs.Judge.{heading_refusal}
use Rattle.published_headings.proofs.Judged.{orderly}
use Rattle.published_headings.proofs.judge.Heading.judge.Goals as goal

pub block-requires : goal.block-requires
block-requires c =
    let a = c.args in
    let o = orderly a.done a.self.version a.self.coordinate a.self.power (sym c.in_order.ensures ∙ c.if-not-in_order.false) in
    (o.some, o.few, o.low)

pub returns : goal.returns
unfolding heading_refusal
returns c =
    let a = c.args in
    let ordered = sym c.in_order.ensures ∙ c.if-not-in_order.false in
    let fits : count_fits a.tally a.self.count ≡ true = sym c.count_fits.ensures ∙ c.if-not-count_fits.false in
    let o = orderly a.done a.self.version a.self.coordinate a.self.power ordered in
    (rw (ordered, fits), record { block = c.block.ensures; onward = rw c.block.ensures o.onward; inside = rw c.block.ensures o.inside; fits = fits })
