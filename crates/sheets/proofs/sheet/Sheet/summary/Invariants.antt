use Rattle.sheets.proofs.Tally.{Tally}
use Rattle.sheets.specs.Sheets.{sheet_rows}
use Rattle.sheets.specs.Steps.{rows_left}
use Rattle.sheets.proofs.sheet.Sheet.summary.Given as goal

abbrev pub invariant-loop-row : goal.invariant-loop-row
invariant-loop-row l = record {
  can_next : (goal.iterator-loop-row).can_next l.row-iterator;
  is_finite : (goal.iterator-loop-row).is_finite l.row-iterator;
  tally : Tally (sheet_rows l.self) (rows_left l.row-iterator) l.accepted l.nulls;
}
