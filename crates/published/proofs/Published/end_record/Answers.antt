-- `published::Published::end_record` meets its contract. Assumes nothing.
use Rattle.std.proofs.Common.{rules, sym, ◌∙◌}
use Rattle.series_lines.proofs.Branches.{line_wrote}
use Rattle.published.specs.Reader.{record_end}
use Rattle.published.proofs.Branches.{record_wrong, record_as_line}
use Rattle.published.proofs.Published.end_record.Goals as goal

pub returns-then-not-follows : goal.returns-then-not-follows
returns-then-not-follows c = record_wrong c.args.self _ _ (sym c.follows.ensures ∙ c.if-not-follows.true) (search rules)

pub returns : goal.returns
returns c =
    let p = c.args.self in
    let e = record_as_line p (sym c.follows.ensures ∙ c.if-not-follows.false) in
    let w = line_wrote p.reader c.args.out.now (record_end p) in
    (rw e at c.end_term.ensures.0 ∙ w.0, rw e at c.end_term.ensures.1 ∙ w.1)
