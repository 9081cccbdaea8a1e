-- What the code answers at the line feed of a heading: the reader after a heading that was written, or why it is refused. Held by the code, no part of the rules.
use Rattle.std.specs.Prelude.{Result, Ok, Err}
use Rattle.units.specs.declared.Fault.{Fault}
use Rattle.units.specs.Refusals.{fault_number}
use Rattle.series_lines.specs.declared.Reader.{Reader}
use Rattle.series_lines.specs.Reader.{stopped}

-- The reader r after that.
abbrev pub ruled : Reader → Result Reader Fault → Reader
ruled r (Ok q) = q
ruled r (Err fault) = stopped r (fault_number fault)
