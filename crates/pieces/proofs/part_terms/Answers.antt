-- `pieces::part_terms` meets its contract: the values in the tables and the terms that are left are the piece's sum. Assumes nothing.
use native.Mathlib.Omega.{arith}
use Rattle.pieces.proofs.Summing.{term_fits}
use Rattle.pieces.proofs.Parting.{partly_none, evens_free, odds_free, partly_more, partly_all}
use Rattle.pieces.proofs.part_terms.Goals as goal

pub loop-i-init : goal.loop-i-init
loop-i-init c = partly_none c.requires.0 c.requires.1

pub worked_at-requires : goal.worked_at-requires
worked_at-requires c =
    let q = c.requires.0 in
    ((let n = q.space in omega arith), term_fits c.loop-i.invariant.summed c.loop-i-test.true)

pub put_term-n-requires : goal.put_term-n-requires
put_term-n-requires c = (c.worked_at.ensures.parity, evens_free c.loop-i.invariant, odds_free c.loop-i.invariant)

pub loop-i-preserved : goal.loop-i-preserved
loop-i-preserved c = partly_more c.loop-i.invariant c.loop-i-test.true c.worked_at.result c.worked_at.ensures c.put_term-n.ensures

pub put_term-requires : goal.put_term-requires
put_term-requires c = (omega arith, evens_free c.loop-i.invariant, odds_free c.loop-i.invariant)

pub returns : goal.returns
returns c = partly_all c.loop-i.invariant c.loop-i-test.false c.put_term.ensures
