-- What the iterators over cells and over lists have left.
use Rattle.std.specs.Prelude.{List, map, Option}
use Rattle.std.specs.List.{range_with_len, between}
use Rattle.columns.specs.declared.column.ListColumn.{ListColumn}
use Rattle.columns.specs.declared.iters.CellIter.{CellIter}
use Rattle.columns.specs.declared.iters.ListIter.{ListIter}
use Rattle.columns.specs.Columns.{column_rows, list_at, part_cells}

-- the lists of a column, in the order of their rows
abbrev pub lists_in : {K : Type 0} → ListColumn K → List (Option (List (Option K)))
lists_in c = map (list_at c) (range_with_len 0 (column_rows c))

abbrev pub cells_left : {K : Type 0} → CellIter K → List (Option K)
cells_left it = between it.rows.start it.rows.end (part_cells it.part)

abbrev pub lists_left : {K : Type 0} → ListIter K → List (Option (List (Option K)))
lists_left it = between it.rows.start it.rows.end (lists_in it.column.now)
