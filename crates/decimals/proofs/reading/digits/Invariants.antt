-- What is left to read gives what all of it gives.
use Rattle.std.proofs.Common.{◌≡◌, ◌<◌, drop}
use Rattle.decimals.specs.Machine.Reading.{too_great, digits_after, all_digits}
use Rattle.decimals.proofs.reading.digits.Given as goal

abbrev pub invariant-loop-b : goal.invariant-loop-b
invariant-loop-b l = (l.value < too_great) × (digits_after l.value (drop l.b-index l.text) ≡ all_digits l.text)
