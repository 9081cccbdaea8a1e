-- `put_figure` meets its contract. Assumes nothing.
use Rattle.refusal_words.proofs.WrittenWords.{count_put}
use Rattle.refusal_words.proofs.put_figure.Goals as goal

pub returns-in-Count : goal.returns-in-Count
returns-in-Count g c = count_put _ _ _ _ c.in-Count.is c.put_decimal.ensures
