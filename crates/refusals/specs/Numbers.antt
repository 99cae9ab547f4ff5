-- The number of each refusal. Every promise that gives a refusal as a number goes through this definition.
use Rattle.std.specs.Prelude.{ℕ}
use Rattle.refusals.specs.declared.Refusal.{Refusal}
use Rattle.refusals.specs.declared.Refusal.TheVariants.{
  StoreTooLong,
  TextTooLong,
  SheetLength,
  SheetTooLarge,
  UnknownWordBit,
  TooManyRows,
  CountsDiffer,
  MapTooShort,
  BadOffsets,
  TotalTooLarge,
  ModuleOutOfRange,
  NoRoom,
  TooManyLive,
  NotLive,
  FirstTooLarge,
  IndexOutOfRange,
  OutputTooShort,
}

abbrev pub number_of : Refusal → ℕ
number_of StoreTooLong = 1
number_of TextTooLong = 2
number_of SheetLength = 3
number_of SheetTooLarge = 4
number_of UnknownWordBit = 5
number_of TooManyRows = 6
number_of CountsDiffer = 7
number_of MapTooShort = 8
number_of BadOffsets = 9
number_of TotalTooLarge = 10
number_of ModuleOutOfRange = 11
number_of NoRoom = 12
number_of TooManyLive = 13
number_of NotLive = 14
number_of FirstTooLarge = 15
number_of IndexOutOfRange = 16
number_of OutputTooShort = 17
