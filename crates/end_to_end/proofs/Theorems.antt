-- The statements of specs/EndToEnd.antt. Assumes nothing.
use Rattle.end_to_end.specs.EndToEnd.{PackedSeries, SeriesText, ToldApart, KindsToldApart, FoundByCheck, FoundByRead, PrintTellsApart}
use Rattle.end_to_end.proofs.Splits as splits
use Rattle.end_to_end.proofs.Packed as packed
use Rattle.end_to_end.proofs.Texts as texts
use Rattle.end_to_end.proofs.Printed as printed

pub kinds_told_apart : KindsToldApart
kinds_told_apart =
    record {
      packed = splits.told_apart PackedSeries packed.not_empty packed.no_beginning;
      texts = of_texts;
      printed = splits.part_apart printed.is_series_text of_texts;
    }
  where
    of_texts : ToldApart SeriesText
    of_texts = splits.told_apart SeriesText texts.not_empty texts.no_beginning

pub found_by_check : FoundByCheck
found_by_check =
    record { followed = packed.followed; front = packed.front; cut_short = packed.cut_short; finds = packed.finds; found = packed.found }

pub found_by_read : FoundByRead
found_by_read = record { followed = texts.followed; front = texts.front; cut_short = texts.cut_short; room = texts.room }

pub print_tells_apart : PrintTellsApart
print_tells_apart = record { has_text = printed.has_text; is_series_text = printed.is_series_text; same = printed.same }
