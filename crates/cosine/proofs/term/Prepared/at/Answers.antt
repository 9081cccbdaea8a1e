-- `cosine::term::Prepared::at` meets its contract. Assumes nothing.
use Rattle.cosine.proofs.TermAngle.{ready}
use Rattle.cosine.proofs.term.Prepared.at.Goals as goal

pub invariant_of-result : goal.invariant_of-result
invariant_of-result c = record {
  ready = rw (c.by_cuts.ensures, c.by_cuts-2.ensures, c.by_cuts-3.ensures)
      (∣ ready _ c.biased-n.result c.times_far-place_1.result c.times_far-raised.result c.biased-n.ensures c.times_far-place_1.ensures
      c.times_far-raised.ensures ∣₁);
}
