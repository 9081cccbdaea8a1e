-- `command_line::arguments::ms_of_day` meets its contract. Assumes nothing.
use Rattle.std.proofs.Common.{◌≡◌}
use Rattle.arith.proofs.Signs.{back}
use Rattle.arith.specs.Naturals.{natural_or}
use Rattle.command_line.specs.Clock.{hours, minutes, seconds}
use Rattle.command_line.proofs.Clocks.{no_hour, no_minute, no_second, at_clock}
use Rattle.command_line.proofs.arguments.ms_of_day.Goals as goal
use Rattle.command_line.proofs.arguments.ms_of_day.Goals.{then-h-ge-HOURS-via-then-h-ge-HOURS}
use Rattle.command_line.proofs.arguments.ms_of_day.Goals.{then-h-ge-HOURS-via-else-h-ge-HOURS+then-m-ge-MINUTES}
use Rattle.command_line.proofs.arguments.ms_of_day.Goals.{then-h-ge-HOURS-via-else-h-ge-HOURS+else-m-ge-MINUTES+then-s-ge-SECONDS}

pub returns-then-h-ge-HOURS : goal.returns-then-h-ge-HOURS
returns-then-h-ge-HOURS c =
    let h : c.natural_or-h.result ≡ natural_or c.args.hour hours = rw (back _ c.ranges.hour) at c.natural_or-h.ensures in
    let m : c.natural_or-m.result ≡ natural_or c.args.minute minutes = rw (back _ c.ranges.minute) at c.natural_or-m.ensures in
    let s : c.natural_or-s.result ≡ natural_or c.args.second seconds = rw (back _ c.ranges.second) at c.natural_or-s.ensures in
    elim c.then-h-ge-HOURS.branch [
      | then-h-ge-HOURS-via-then-h-ge-HOURS w ↦ no_hour _ _ _ h m s w.if-h-ge-HOURS.true
      | then-h-ge-HOURS-via-else-h-ge-HOURS+then-m-ge-MINUTES w ↦ no_minute _ _ _ h m s w.if-h-ge-HOURS.false w.if-m-ge-MINUTES.true
      | then-h-ge-HOURS-via-else-h-ge-HOURS+else-m-ge-MINUTES+then-s-ge-SECONDS w ↦
          no_second _ _ _ h m s w.if-h-ge-HOURS.false w.if-m-ge-MINUTES.false w.if-s-ge-SECONDS.true
    ]

pub returns : goal.returns
returns c =
    let h : c.natural_or-h.result ≡ natural_or c.args.hour hours = rw (back _ c.ranges.hour) at c.natural_or-h.ensures in
    let m : c.natural_or-m.result ≡ natural_or c.args.minute minutes = rw (back _ c.ranges.minute) at c.natural_or-m.ensures in
    let s : c.natural_or-s.result ≡ natural_or c.args.second seconds = rw (back _ c.ranges.second) at c.natural_or-s.ensures in
    at_clock _ _ _ h m s c.if-h-ge-HOURS.false c.if-m-ge-MINUTES.false c.if-s-ge-SECONDS.false
