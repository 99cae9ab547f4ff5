-- What each refusal says to people, and the line that is printed of it.
use Rattle.std.specs.Prelude.{ℕ, List, ◌++◌, codes, decimal}
use Rattle.refusals.specs.declared.Refusal.{Refusal}
use Rattle.refusals.specs.declared.Refusal.TheVariants.{
  StoreTooLong,
  TextTooLong,
  SheetLength,
  SheetTooLarge,
  UnknownWordBit,
  TooManyRows,
  CountsDiffer,
  MapTooShort,
  BadOffsets,
  TotalTooLarge,
  ModuleOutOfRange,
  NoRoom,
  TooManyLive,
  NotLive,
  FirstTooLarge,
  IndexOutOfRange,
  OutputTooShort,
}
use Rattle.refusals.specs.Numbers.{number_of}

abbrev pub sentence_of : Refusal → List ℕ
sentence_of StoreTooLong = codes "the store is longer than 1048576 places"
sentence_of TextTooLong = codes "the text is longer than 16 bytes"
sentence_of SheetLength = codes "the sheet's length is not 8 bytes and 12 more for each row"
sentence_of SheetTooLarge = codes "the sheet states more than 2048 rows or modules"
sentence_of UnknownWordBit = codes "a word of the sheet has a bit set that means nothing"
sentence_of TooManyRows = codes "there are more rows or cells than a column may have"
sentence_of CountsDiffer = codes "the parts of a column differ in their number of rows"
sentence_of MapTooShort = codes "the validity map has too few bytes for its rows"
sentence_of BadOffsets = codes "the offsets of the list column are not in order"
sentence_of TotalTooLarge = codes "the total is above 65536 modules"
sentence_of ModuleOutOfRange = codes "a row or list names a module beyond the module count"
sentence_of NoRoom = codes "the store has no room for what the call brings"
sentence_of TooManyLive = codes "more than 1048576 cues would be live"
sentence_of NotLive = codes "a retracted cue is not live that often"
sentence_of FirstTooLarge = codes "there are fewer modules than lists asked for"
sentence_of IndexOutOfRange = codes "no row or list has that number"
sentence_of OutputTooShort = codes "the output buffer is too short for the result"

-- as in "refused 11: a row or list names a module beyond the module count"
abbrev pub line_of : Refusal → List ℕ
line_of r = codes "refused " ++ (decimal (number_of r) ++ (codes ": " ++ sentence_of r))
