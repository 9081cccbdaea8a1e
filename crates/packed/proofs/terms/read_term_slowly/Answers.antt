-- `read_term_slowly` meets its contract. Assumes nothing.
use mathlib.Core.Path.{sym}
use Rattle.packed_numbers.specs.Numbers.{folded, unfolded}
use Rattle.packed_numbers.specs.Machine.Answers.{plain}
use Rattle.packed_numbers.proofs.Reading.{got_plain, got_folded, pass_on, show_got}
use Rattle.packed.specs.Machine.Answers.{packed_term}
use Rattle.packed.proofs.ReadCases.{a_after, b_after, c_after, term_bad_a, term_bad_b, term_bad_c, term_got}
use Rattle.packed.proofs.Accepting.{a_accepted, packed_back}
use Rattle.packed.proofs.terms.read_term_slowly.Goals as goal

pub returns-in_err-a : goal.returns-in_err-a
returns-in_err-a c = pass_on folded packed_term _ c.from_residual.ensures.1 c.in_err-a.ensures (term_bad_a _ _ _ _ _)

pub returns-in_err-b : goal.returns-in_err-b
returns-in_err-b c =
    let a = got_folded c.in_ok-a.a (a_after c.args.bytes.now c.args.at c.args.tally) (sym c.in_ok-a.ensures) in
    pass_on plain packed_term _ c.from_residual-in_err-b.ensures.1 c.in_err-b.ensures (term_bad_b _ _ _ _ _ _ _ a.is _)

pub read_c-requires : goal.read_c-requires
read_c-requires c =
    let a = got_folded c.in_ok-a.a (a_after c.args.bytes.now c.args.at c.args.tally) (sym c.in_ok-a.ensures) in
    (c.requires, (a_accepted _ _ _ a.is).good.fits)

pub returns-in_err-c : goal.returns-in_err-c
returns-in_err-c c =
    let a = got_folded c.in_ok-a.a (a_after c.args.bytes.now c.args.at c.args.tally) (sym c.in_ok-a.ensures) in
    let b = got_plain c.in_ok-b.b (b_after c.args.bytes.now c.in_ok-a.a.next) (sym c.in_ok-b.ensures) in
    pass_on folded packed_term _ c.from_residual-in_err-c.ensures.1 c.in_err-c.ensures (term_bad_c _ _ _ _ _ _ _ a.is _ _ _ b.is _)

pub returns : goal.returns
returns c =
    let s = c.args in
    let a = got_folded c.in_ok-a.a (a_after s.bytes.now s.at s.tally) (sym c.in_ok-a.ensures) in
    let b = got_plain c.in_ok-b.b (b_after s.bytes.now c.in_ok-a.a.next) (sym c.in_ok-b.ensures) in
    let l = c_after s.bytes.now s.f s.tally (unfolded c.in_ok-a.a.value) c.in_ok-b.b.value c.in_ok-b.b.next in
    let n = got_folded c.in_ok-c.c l (sym c.in_ok-c.ensures) in
    show_got packed_term (term_got _ _ _ _ _ _ _ a.is _ _ _ b.is _ _ _ n.is) (packed_back _)
