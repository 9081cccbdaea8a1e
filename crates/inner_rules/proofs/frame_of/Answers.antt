-- `inner_rules::frame_of` meets its contract. Assumes nothing.
use Rattle.inner_rules.proofs.Ranges.{frame_theory, frame_catalogues}
use Rattle.inner_rules.proofs.frame_of.Goals as goal

pub returns-then-turned-eq0 : goal.returns-then-turned-eq0
returns-then-turned-eq0 c = frame_theory c.args.turned c.if-turned-eq0.true

pub returns-else-turned-eq0 : goal.returns-else-turned-eq0
returns-else-turned-eq0 c = frame_catalogues c.args.turned c.if-turned-eq0.false
