-- `list_asked` meets its contract. Assumes nothing.
use Rattle.std.proofs.Common.{◌≡◌, ◌≤◌, length, sym, rules}
use Rattle.std.proofs.lemmas.Result.{err_from_is_err_and}
use Rattle.arith.proofs.Cells.{Cell}
use Rattle.runs.specs.Runs.{most_minutes}
use Rattle.sunlist.specs.SunList.{sun_list, sun_list_out}
use Rattle.list_lines.proofs.WrittenList.{at_instant, no_instant, if_answered}
use Rattle.list_lines.proofs.answer.list_asked.Goals as goal

pub returns-in_err-t0 : goal.returns-in_err-t0
returns-in_err-t0 c =
    let p = err_from_is_err_and c.from_residual.result c.from_residual.ensures.1 in
    record { told = λ start. rw (p.1, p.2) (no_instant _ _ _ start _ _ _ _ (sym c.in_err-t0.ensures)); few = rw p.1 tt }

pub returns : goal.returns
returns c =
    let a = c.args in
    let m : Cell a.asked.minutes ≡ a.asked.minutes = search rules in
    let k : Cell a.asked.keep_out ≡ a.asked.keep_out = search rules in
    let output : c.sun_list.new.out ≡ sun_list_out a.planet.now a.earth.now c.in_ok-t0.t0 (Cell a.asked.minutes) (Cell a.asked.keep_out) a.numbers.now =
    c.sun_list.ensures.output in
    let answer : c.sun_list.result ≡ sun_list a.planet.now a.earth.now c.in_ok-t0.t0 (Cell a.asked.minutes) (Cell a.asked.keep_out) (length a.numbers.now) =
    c.sun_list.ensures.answer in
    record {
      told = λ start. at_instant _ _ _ start _ _ _ _ _ (sym c.in_ok-t0.ensures) (rw (m, k, c.requires) at output) (rw (m, k, c.requires) at answer);
      few = if_answered c.sun_list.result (λ count. (count ≤ most_minutes) × (count ≤ length c.sun_list.new.out))
          (λ count e. (c.sun_list.ensures.few count e, (c.sun_list.ensures.demand count e).room));
    }
