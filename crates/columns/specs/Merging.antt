-- The cells that a merge of a list column brings, and the part of the column's own cells that they can be taken from.
use Rattle.std.specs.Prelude.{◌≡◌, ℕ, zero, suc, ◌+◌, ◌<◌, ◌≤◌, Bool, true, false, if◌then◌else◌, not, ◌&&◌, ◌||◌, ◌⊎◌, List, [], ◌++◌, ℤ, Some, None, Option, ◌==◌, nat_lt}
use Rattle.std.specs.List.{between}
use Rattle.bitmap.specs.Maps.{row_valid}
use Rattle.columns.specs.declared.column.ListColumn.{ListColumn}
use Rattle.columns.specs.Columns.{cells_in, column_rows}
use Rattle.columns.specs.Offsets.{start_of}

-- the cells of the valid lists among the first n rows, joined in order
abbrev pub valid_cells : {K : Type 0} → (ℕ → Bool) → List ℤ → List (Option K) → ℕ → List (Option K)
valid_cells valid offsets cells zero = []
valid_cells valid offsets cells (suc n) = valid_cells valid offsets cells n ++ (if valid n then between (start_of offsets n) (start_of offsets (n + 1)) cells else [])

-- the cells of all valid lists of a column, joined in order
abbrev pub merged_cells : {K : Type 0} → ListColumn K → List (Option K)
merged_cells c = valid_cells (row_valid c.map) c.offsets.now (cells_in c.cells) (column_rows c)

-- a null row that stands between two valid ones covers a cell
pub record Gap (valid : ℕ → Bool) (offsets : List ℤ) (rows : ℕ) : Type 0 where
  pub before : ℕ
  pub row : ℕ
  pub after : ℕ
  pub in_order : (before < row) × (row < after) × (after < rows)
  pub before_valid : valid before ≡ true
  pub row_null : valid row ≡ false
  pub row_covers : start_of offsets row < start_of offsets (row + 1)
  pub after_valid : valid after ≡ true

-- the first valid row of n, or n
abbrev pub first_valid : (ℕ → Bool) → ℕ → ℕ
first_valid valid zero = 0
first_valid valid (suc n) = if nat_lt (first_valid valid n) n then first_valid valid n else if valid n then n else suc n

-- one past the last valid row of n, or 0
abbrev pub past_valid : (ℕ → Bool) → ℕ → ℕ
past_valid valid zero = 0
past_valid valid (suc n) = if valid n then suc n else past_valid valid n

-- row i is valid or covers no cell
abbrev pub whole : (ℕ → Bool) → List ℤ → ℕ → Bool
whole valid offsets i = valid i || not (nat_lt (start_of offsets i) (start_of offsets (i + 1)))

-- each row from one place to before n is valid or covers no cell
abbrev pub all_whole_from : (ℕ → Bool) → List ℤ → ℕ → ℕ → Bool
all_whole_from valid offsets from zero = true
all_whole_from valid offsets from (suc n) = all_whole_from valid offsets from n && (nat_lt n from || whole valid offsets n)

-- where the part that can be merged as it stands begins and ends. A column of no rows has an empty one at its first offset,
-- and a column of null rows an empty one at 0. Any other has the stretch from its first valid row to its last, unless a null
-- row in that stretch has cells
abbrev pub merge_span : (ℕ → Bool) → List ℤ → ℕ → Option (ℕ × ℕ)
merge_span valid offsets rows =
    if rows == 0 then Some (start_of offsets 0, start_of offsets 0)
    else if first_valid valid rows == rows then Some (0, 0)
    else if all_whole_from valid offsets (first_valid valid rows) (past_valid valid rows) then Some (start_of offsets (first_valid valid rows), start_of offsets (past_valid valid rows))
    else None

abbrev pub column_span : {K : Type 0} → ListColumn K → Option (ℕ × ℕ)
column_span c = merge_span (row_valid c.map) c.offsets.now (column_rows c)

abbrev pub ColumnGap : {K : Type 0} → ListColumn K → Type 0
ColumnGap c = Gap (row_valid c.map) c.offsets.now (column_rows c)

-- row k is valid or covers no cell
abbrev pub RowWhole : {K : Type 0} → ListColumn K → ℕ → Type 0
RowWhole c k = (row_valid c.map k ≡ true) ⊎ (start_of c.offsets.now (k + 1) ≤ start_of c.offsets.now k)

-- row k is null and covers a cell
abbrev pub RowCovers : {K : Type 0} → ListColumn K → ℕ → Type 0
RowCovers c k = (row_valid c.map k ≡ false) × (start_of c.offsets.now k < start_of c.offsets.now (k + 1))
