-- `put_lines` meets its contract. Assumes nothing.
use Rattle.std.proofs.Common.{◌≡◌, ◌+◌, [], ◌∷◌, ◌++◌, length, sym, ◌∙◌, arith, rules, length-append}
use Rattle.list_lines.proofs.Pairs.{all_left, one_more, first_is, last_is, next_left}
use Rattle.list_lines.proofs.WrittenList.{left_none, left_more, left_last}
use Rattle.list_lines.proofs.answer.put_lines.Goals as goal

pub loop-run-init : goal.loop-run-init
loop-run-init g c = (search rules, tt, search rules, all_left _ _ _ (search rules) (search rules), left_none _ _ _ _)

pub put_run-requires : goal.put_run-requires
put_run-requires g c =
    let s = c.in-Some.ensures.steps.1 in
    let more = one_more _ _ _ _ _ _ c.loop-run.invariant.3 s.0 (s.1 ∙ c.loop-run.invariant.2) in
    (search rules, omega (arith, c.loop-run.invariant.4.room))

pub loop-run-preserved : goal.loop-run-preserved
loop-run-preserved g c =
    let s = c.in-Some.ensures.steps in
    let left = c.loop-run.invariant.3 in
    let two = s.1.1 ∙ c.loop-run.invariant.2 in
    let one : length c.loop-run.yielded + 1 ≡ length (c.loop-run.yielded ++ c.in-Some.run' ∷ []) = sym (length-append c.loop-run.yielded _) in
    let written = rw (first_is _ _ _ _ _ _ left s.1.0 two, last_is _ _ _ _ _ _ left s.1.0 two) at c.put_run.ensures in (
      search rules,
      tt,
      s.0 ∙ c.loop-run.invariant.2,
      rw (← one) (next_left _ _ _ _ _ _ left s.1.0 two),
      rw (← one) (left_more _ _ _ _ _ _ c.loop-run.invariant.4 _ (one_more _ _ _ _ _ _ left s.1.0 two) written),
    )

pub returns : goal.returns
returns g c =
    let s = c.in-None.ensures.steps in
    let size = c.loop-run.invariant.2 in
    let left = c.loop-run.invariant.3 in
    let told = left.told in
    let rest = left.size in
    let few = s.1.0 in
    left_last _ _ _ _ _ _ c.loop-run.invariant.4 (omega arith)
