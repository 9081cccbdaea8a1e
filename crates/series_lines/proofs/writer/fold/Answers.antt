-- `series_lines::writer::fold` meets its contract. Assumes nothing.
use mathlib.Core.Path.{◌∙◌}
use Rattle.series_lines.proofs.WrittenTerm.{folded_line}
use Rattle.series_lines.proofs.writer.fold.Goals as goal

pub returns : goal.returns
returns c = rw c.min.ensures at c.saturating_sub.ensures ∙ folded_line c.args.minus c.args.value
