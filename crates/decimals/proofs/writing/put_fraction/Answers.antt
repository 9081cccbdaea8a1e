-- `put_fraction` meets its contract: a unit of 64 bits has fewer places than twenty. Assumes nothing.
use Rattle.std.proofs.Common.{◌≡◌, arith, rules}
use Rattle.std.proofs.lemmas.Grind.{common_steps}
use Rattle.decimals.specs.Decimals.{fraction}
use Rattle.decimals.proofs.Digits.{unit_places, fraction_length}
use Rattle.decimals.proofs.Puts.{alone, text_put}
use Rattle.decimals.proofs.writing.put_fraction.Goals as goal

pub overflow_cast-places : goal.overflow_cast-places
overflow_cast-places c = let few = unit_places c.args.places c.args.unit c.requires.0 c.ranges.unit.fits in search rules

pub put_fraction-requires : goal.put_fraction-requires
put_fraction-requires c =
    let few = unit_places c.args.places c.args.unit c.requires.0 c.ranges.unit.fits in
    (search rules, (few, grind (arith, common_steps)))

pub put_into-requires : goal.put_into-requires
put_into-requires c =
    let e : c.put_fraction.new.self ≡ fraction c.args.below c.args.places c.args.n = alone _ _ _ c.new-decimal.ensures c.put_fraction.ensures in
    (search rules, rw e (omega (arith, c.requires.1, fraction_length c.args.below c.args.places c.args.n)))

pub returns : goal.returns
returns c = text_put _ _ _ _ _ _ (alone _ _ _ c.new-decimal.ensures c.put_fraction.ensures) c.put_into.ensures
