-- Which rows of a batch are accepted, and the records that a batch or a list column brings.
use Rattle.std.specs.Prelude.{ℕ, zero, suc, ◌+◌, Bool, if◌then◌else◌, false, true, ◌&&◌, List, [], ◌++◌, map, filter, ℤ, Some, None, Option, slice_index, slice_index_or}
use Rattle.std.specs.List.{between, enumerate_from, zip}
use Rattle.std.specs.Option.{option_map}
use Rattle.bitmap.specs.Maps.{row_valid}
use Rattle.columns.specs.declared.column.ListColumn.{ListColumn}
use Rattle.columns.specs.Columns.{cells_in, column_rows}
use Rattle.columns.specs.Offsets.{start_of}
use Rattle.columns.specs.Policies.{passes}
use Rattle.records.specs.declared.accept.Batch.{Batch}
use Rattle.records.specs.declared.record.Record.{Record}

-- the mark of row i; where there are no marks, each is yes
abbrev pub marked : Option (List Bool) → ℕ → Bool
marked None i = true
marked (Some marks) i = slice_index_or marks i false

-- the records of the accepted rows, in the order of the rows, of which the first is row i: each row's cell goes to its group
abbrev pub accepted_from : {K : Type 0} → Bool → Option (List Bool) → ℕ → List ℕ → List (Option K) → List (Record K)
accepted_from ignore marks i groups cells =
    map (λ row. record { group = row.1.0; cell = row.1.1 })
    (filter (λ row. marked marks row.0 && passes ignore row.1.1) (enumerate_from i (zip groups cells)))

-- the records that a batch brings
abbrev pub batch_records : {K : Type 0} → Batch K → List (Record K)
batch_records b = accepted_from b.filter.ignore (option_map (λ x. x.now) b.filter.marks) 0 b.groups.now (cells_in b.cells.now)

-- the records of the first n lists of a column: each cell of a valid list goes to the list's group
abbrev pub merged_records : {K : Type 0} → (ℕ → Bool) → List ℤ → List (Option K) → List ℕ → ℕ → List (Record K)
merged_records valid offsets cells groups zero = []
merged_records valid offsets cells groups (suc n) =
    merged_records valid offsets cells groups n
    ++ (if valid n then map (λ c. record { group = slice_index groups n; cell = c }) (between (start_of offsets n) (start_of offsets (n + 1)) cells) else [])

-- the records of all lists of a column that was read
abbrev pub column_records : {K : Type 0} → ListColumn K → List ℕ → List (Record K)
column_records c groups = merged_records (row_valid c.map) c.offsets.now (cells_in c.cells) groups (column_rows c)
