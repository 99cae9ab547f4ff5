-- What cells and list columns that were read hold, and when they are refused.
use Rattle.std.specs.Prelude.{◌≡◌, ℕ, ◌+◌, ◌≤◌, Bool, if◌then◌else◌, not, ◌||◌, List, [], ◌∷◌, length, ℤ, Some, None, Option, ◌==◌, nat_le, nat_lt}
use Rattle.std.specs.List.{between}
use Rattle.refusals.specs.declared.Refusal.TheVariants.{TooManyRows, CountsDiffer, MapTooShort, BadOffsets, IndexOutOfRange}
use Rattle.refusals.specs.Checks.{Checks}
use Rattle.bitmap.specs.Bits.{bytes_for, valid_at}
use Rattle.bitmap.specs.Maps.{row_count, row_valid}
use Rattle.columns.specs.declared.cells.Cells.{Cells}
use Rattle.columns.specs.declared.column.ColumnParts.{ColumnParts}
use Rattle.columns.specs.declared.column.ListColumn.{ListColumn}
use Rattle.columns.specs.declared.column.Part.{Part}
use Rattle.columns.specs.Cells.{cells_from, passed_cells}
use Rattle.columns.specs.Offsets.{GoodOffsets, offsets_keep, start_of}

-- the cells, in their order
abbrev pub cells_in : {K : Type 0} → Cells K → List (Option K)
cells_in c = cells_from (row_valid c.map) 0 c.cues.now

abbrev pub cell_row_checks : {K : Type 0} → Cells K → ℕ → Checks
cell_row_checks c i = (nat_le (length c.cues.now) i, IndexOutOfRange) ∷ []

-- the cells of a part: its place is the row of its first cue
abbrev pub part_cells : {K : Type 0} → Part K → List (Option K)
part_cells p = cells_from (valid_at p.map.now) p.place p.cues.now

abbrev pub part_row_checks : {K : Type 0} → Part K → ℕ → Checks
part_row_checks p i = (nat_le (length p.cues.now) i, IndexOutOfRange) ∷ []

-- what a caller passes keeps the rules of a list column
pub record GoodColumn {K : Type 0} (p : ColumnParts K) : Type 0 where
  pub rows_fit : p.rows ≤ 65536
  pub cells_fit : p.cells.rows ≤ 1048576
  pub level : length p.cells.cues.now ≡ p.cells.rows
  pub map_long : bytes_for p.rows ≤ length p.map.now
  pub cell_map_long : bytes_for p.cells.rows ≤ length p.cells.map.now
  pub offsets_good : GoodOffsets p.offsets.now p.rows p.cells.rows

abbrev pub column_checks : {K : Type 0} → ColumnParts K → Checks
column_checks p =
    (nat_lt 65536 p.rows || nat_lt 1048576 p.cells.rows, TooManyRows)
    ∷ (not (length p.cells.cues.now == p.cells.rows), CountsDiffer)
    ∷ (nat_lt (length p.map.now) (bytes_for p.rows) || nat_lt (length p.cells.map.now) (bytes_for p.cells.rows), MapTooShort)
    ∷ (not (offsets_keep p.offsets.now p.rows p.cells.rows), BadOffsets)
    ∷ []

-- row i of a column with these offsets over these cells, where valid says which rows are valid: null, or the cells that it
-- covers
abbrev pub list_in : {K : Type 0} → (ℕ → Bool) → List ℤ → List (Option K) → ℕ → Option (List (Option K))
list_in valid offsets cells i = if valid i then Some (between (start_of offsets i) (start_of offsets (i + 1)) cells) else None

-- the lists that a caller passes
abbrev pub passed_list : {K : Type 0} → ColumnParts K → ℕ → Option (List (Option K))
passed_list p = list_in (valid_at p.map.now) p.offsets.now (passed_cells p.cells)

abbrev pub column_rows : {K : Type 0} → ListColumn K → ℕ
column_rows c = row_count c.map

-- row i of a column that was read
abbrev pub list_at : {K : Type 0} → ListColumn K → ℕ → Option (List (Option K))
list_at c = list_in (row_valid c.map) c.offsets.now (cells_in c.cells)

abbrev pub column_row_checks : {K : Type 0} → ListColumn K → ℕ → Checks
column_row_checks c i = (nat_le (column_rows c) i, IndexOutOfRange) ∷ []

-- a part of a column's own cells, from one place to before another
pub record PartOf {K : Type 0} (c : ListColumn K) (from to : ℕ) (p : Part K) : Type 0 where
  pub place : p.place ≡ from
  pub cues : p.cues.now ≡ between from to c.cells.cues.now
  pub cells : part_cells p ≡ between from to (cells_in c.cells)
