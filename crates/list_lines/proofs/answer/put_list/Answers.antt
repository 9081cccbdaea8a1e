-- `put_list` meets its contract. Assumes nothing.
use Rattle.std.proofs.Common.{arith, rules}
use Rattle.list_lines.proofs.WrittenList.{runs_told, refusal_told}
use Rattle.list_lines.proofs.answer.put_list.Goals as goal

pub put_runs-requires : goal.put_runs-requires
put_runs-requires g c =
    let f = c.in-Ok.ensures.few in
    (search rules, (omega arith, (omega arith, c.requires)))

pub returns-in-Err : goal.returns-in-Err
returns-in-Err g c = refusal_told _ _ _ _ _ _ _ (c.list_asked.ensures.told _) c.in-Err.is c.put_refusal.ensures

pub returns-in-Ok : goal.returns-in-Ok
returns-in-Ok g c =
    runs_told _ _ _ _ _ _ _ (c.list_asked.ensures.told _) c.in-Ok.is (rw c.minute_of_day-start.ensures at c.put_runs.ensures)
