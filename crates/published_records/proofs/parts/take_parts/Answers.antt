-- `published_records::parts::take_parts` meets its contract: each digit of the run goes on. Assumes nothing.
use Rattle.std.proofs.Common.{false}
use Prim.Native.Nat.{◌+◌, ◌-◌, ◌≤◌}
use native.Mathlib.Omega.{arith}
use Rattle.series_lines.proofs.DigitRuns.{run_within}
use Rattle.published_records.specs.Machine.Parts.{row_at}
use Rattle.published_records.proofs.PartRuns.{parted}
use Rattle.published_records.proofs.ByteRuns.{skips_taken}
use Rattle.published_records.proofs.parts.take_parts.Goals as goal

pub overflow_sub-spot : goal.overflow_sub-spot
overflow_sub-spot c = (run_within c.take_digits-digits.ensures).0

pub overflow_add-spot : goal.overflow_add-spot
overflow_add-spot c = omega (arith, (parted c.args.row _ _ c.requires c.take_digits-digits.ensures).most)

pub come_to-requires : goal.come_to-requires
come_to-requires c =
    let on : c.args.row.line.spot ≤ c.args.row.line.spot + (c.take_digits-digits.result.next - c.args.from) = omega arith in
    (c.requires, (on, (parted c.args.row _ _ c.requires c.take_digits-digits.ensures).most))

pub returns : goal.returns
returns c =
    let r = c.args.row in
    rw c.come_to.ensures
    (skips_taken false r (row_at r _ _) _ _ _ (parted r _ _ c.requires c.take_digits-digits.ensures).takes)
