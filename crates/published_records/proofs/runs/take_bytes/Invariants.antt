-- `published_records::runs::take_bytes` meets its contract: each turn takes a byte and a run after it. Assumes nothing.
use Rattle.std.proofs.Common.{◌-◌, length}
use Rattle.published_records.specs.Rows.{is_heading}
use Rattle.published_records.specs.Machine.Runs.{Takes}
use Rattle.published_records.proofs.runs.take_bytes.Given as goal

abbrev pub invariant-loop-at : goal.invariant-loop-at
invariant-loop-at l = Takes (is_heading l.kind) l.fn.row l.text l.from l.at.state l.at.next

abbrev pub decreases-loop-at : goal.decreases-loop-at
decreases-loop-at l = length l.text - l.at.next
