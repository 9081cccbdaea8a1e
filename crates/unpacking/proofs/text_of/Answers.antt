-- What `print` answers for the bytes that are held is the answer for the whole input.
use Rattle.unpacking.proofs.Whole.{answered}
use Rattle.unpacking.proofs.text_of.Goals as goal

pub returns : goal.returns
returns c = λ input i. answered _ _ _ _ input _ c.requires i c.print.ensures
