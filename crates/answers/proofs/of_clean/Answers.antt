-- `answers::of_clean` meets its contract. Assumes nothing.
use Rattle.arith.proofs.Signs.{back, ok}
use Rattle.answers.specs.Answers.{clean_shown}
use Rattle.answers.proofs.of_clean.Goals as goal

pub returns : goal.returns
unfolding clean_shown
returns c =
    let p = c.verdict_place-place in
    let n = c.clip-changes in
    let l = c.clip-length in
    let w = c.of_text-judged in
    rw (
      back p.result (ok p.type_inv),
      back n.result (ok n.type_inv),
      back l.result (ok l.type_inv),
      p.ensures,
      n.ensures,
      l.ensures,
      w.ensures,
    )
