-- `put_decimal` calls itself with one place less.
use Rattle.decimals.proofs.buffer.Buffer.+put_decimal.Given as goal

abbrev pub decreases-put_decimal : goal.decreases-put_decimal
decreases-put_decimal g l = l.places
