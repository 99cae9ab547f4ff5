-- What the iterator over a body's rows has left.
use Rattle.std.specs.Prelude.{List, drop}
use Rattle.sheets.specs.declared.row.Row.{Row}
use Rattle.sheets.specs.declared.rows.Rows.{Rows}
use Rattle.sheets.specs.Reading.{rows_from}

abbrev pub rows_left : Rows → List Row
rows_left it = drop it.next (rows_from it.body.words.now it.body.cues.now)
