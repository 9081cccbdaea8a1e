-- `put_runs` meets its contract. Assumes nothing.
use Rattle.decimals.specs.Texts.{text}
use Rattle.list_lines.proofs.WrittenList.{no_run, some_runs}
use Rattle.list_lines.proofs.answer.put_runs.Goals as goal

pub returns-then-runs-eq0 : goal.returns-then-runs-eq0
unfolding text
returns-then-runs-eq0 g c = no_run _ _ _ _ _ c.if-runs-eq0.true c.put.ensures

pub returns-else-runs-eq0 : goal.returns-else-runs-eq0
returns-else-runs-eq0 g c = some_runs _ _ _ _ _ c.if-runs-eq0.false c.put_lines.ensures
