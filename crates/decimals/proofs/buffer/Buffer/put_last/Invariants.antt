-- What is written and the digits that are left are what is to be written.
use Rattle.std.proofs.Common.{◌≡◌, ◌++◌}
use Rattle.decimals.specs.Decimals.{last_digits}
use Rattle.decimals.proofs.buffer.Buffer.put_last.Given as goal

abbrev pub invariant-loop-k : goal.invariant-loop-k
invariant-loop-k g l = l.self ++ last_digits l.k l.n ≡ l.initial.self ++ last_digits l.places l.n
