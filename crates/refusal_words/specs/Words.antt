-- RULES, "Programs": a refusal as all programs print it, one line: `refused 2, the instant passes its limit, 126230400000001`.
use Rattle.std.specs.Prelude.{List, [], ◌∷◌, ◌++◌, ℕ}
use Rattle.units.specs.Refusals.{number, figure}
use Rattle.units.specs.declared.Refusal.{Refusal}
use Rattle.units.specs.declared.Refusal.TheVariants.{NoSuchDate, PastLimit, BadByte, OverLimit, TotalOverLimit, TooCoarse}
use Rattle.units.specs.declared.Refusal.TheVariants.{NoRoom, EndedEarly, ByteAfterEnd, NotShortest, NotUsable, BadWindow, BadHeading, BadNumber, TooFar}
use Rattle.decimals.specs.Texts.{text, line_feed}
use Rattle.decimals.specs.Decimals.{most_digits, decimal, signed_decimal}

-- What is wrong, up to the figure.
unfoldable pub words : Refusal → List ℕ
words (NoSuchDate field) = text "the date does not exist, field "
words (PastLimit t) = text "the instant passes its limit, "
words (BadByte at) = text "a byte cannot continue a line, at "
words (OverLimit at) = text "a number or a count passes its limit, at "
words (TotalOverLimit at) = text "the total of a block passes its limit, at "
words (TooCoarse at) = text "the series is too coarse, at "
words (NoRoom n) = text "the output does not fit, length needed or offset "
words (EndedEarly n) = text "the input ended too early, at "
words (ByteAfterEnd at) = text "a byte follows block 18, at "
words (NotShortest at) = text "a number is not in its shortest form, at "
words (NotUsable minute) = text "a place is not usable, minute "
words BadWindow = text "keep-out or minutes out of range, "
words (BadHeading at) = text "a heading is wrong or out of order, at "
words (BadNumber at) = text "a running number is wrong, at "
words (TooFar t) = text "a series is not good that far from 2000, instant "

-- The whole line: the number, the words and the figure, with its sign.
unfoldable pub refusal_text : Refusal → List ℕ
refusal_text r =
    text "refused " ++ (decimal most_digits (number r) ++ (text ", " ++ (words r ++ (signed_decimal (figure r) ++ (line_feed ∷ [])))))

-- No words are longer, and no line.
abbrev pub words_most : ℕ
words_most = 49

abbrev pub refusal_most : ℕ
refusal_most = 101
