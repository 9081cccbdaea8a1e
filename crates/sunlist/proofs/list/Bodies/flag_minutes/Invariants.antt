-- The minutes before the next one are flagged, and none of them is bad.
use Rattle.sunlist.specs.Machine.Answers.{decided_at}
use Rattle.sunlist.proofs.Filling.{Filling}
use Rattle.sunlist.proofs.list.Bodies.flag_minutes.Given as goal

abbrev pub invariant-loop-j : goal.invariant-loop-j
invariant-loop-j l = Filling (decided_at l.self.planet.now l.self.earth.now l.window.t0 l.window.keep_out) l.window.minutes l.j l.flags
