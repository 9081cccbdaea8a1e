-- `series_lines::parts::take_digits` meets its contract: each digit of the run goes on. Assumes nothing.
use Prim.Native.Nat.{◌+◌}
use Rattle.series_lines.specs.Machine.Parts.{Digits}
use Rattle.series_lines.proofs.parts.take_digits.Given as goal

abbrev pub invariant-loop-n : goal.invariant-loop-n
invariant-loop-n l = Digits l.text l.stop l.from l.fn.l.value (l.from + l.n) l.value
