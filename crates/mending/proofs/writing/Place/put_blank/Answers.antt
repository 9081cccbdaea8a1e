-- `mending::writing::Place::put_blank` meets its contract. Assumes nothing.
use native.Mathlib.Omega.{arith}
use Rattle.mending.proofs.WritingPass.{wrote_one, wrote_none, tab_byte, tab_numbers, kept_byte, kept_numbers}
use Rattle.mending.proofs.writing.Place.put_blank.Goals as goal

pub bounds-out-self : goal.bounds-out-self
bounds-out-self c =
    let h = rw (tab_byte c.args.byte c.args.offset (omega arith)) at c.requires.0 in
    omega (arith, h)

pub put_change-slot-requires : goal.put_change-slot-requires
put_change-slot-requires c =
    let h = rw (tab_numbers c.args.byte c.args.offset (omega arith)) at c.requires.1 in
    omega (arith, h)

pub returns-then-byte-eq9 : goal.returns-then-byte-eq9
returns-then-byte-eq9 c =
    let a = c.args in
    rw (tab_byte a.byte a.offset (omega arith), tab_numbers a.byte a.offset (omega arith))
    (wrote_one 32 a.self.at a.out.now, c.put_change-slot.ensures)

pub bounds-out-self-2 : goal.bounds-out-self-2
bounds-out-self-2 c =
    let h = rw (kept_byte c.args.byte c.args.offset (λ e. omega (arith, e))) at c.requires.0 in
    omega (arith, h)

pub returns : goal.returns
returns c =
    let a = c.args in
    rw (kept_byte a.byte a.offset (λ e. omega (arith, e)), kept_numbers a.byte a.offset (λ e. omega (arith, e)))
    (wrote_one a.byte a.self.at a.out.now, wrote_none a.self.slot a.list.now)
