-- What a sheet says: its rows, which of them are accepted, and when its bytes are refused.
use Rattle.std.specs.Prelude.{ℕ, ◌*◌, ◌%◌, false, not, ◌||◌, List, [], ◌∷◌, length, pos, filter, ◌==◌, nat_le, nat_lt}
use Rattle.std.specs.List.{list_all}
use Rattle.refusals.specs.declared.Refusal.TheVariants.{SheetLength, SheetTooLarge, UnknownWordBit, ModuleOutOfRange, IndexOutOfRange}
use Rattle.refusals.specs.Checks.{Checks}
use Rattle.sheets.specs.declared.row.Row.{Row}
use Rattle.sheets.specs.declared.row.Summary.{Summary}
use Rattle.sheets.specs.declared.sheet.Sheet.{Sheet}
use Rattle.sheets.specs.Layout.{rows_in, modules_in, body_in, words_at}
use Rattle.sheets.specs.Reading.{rows_at, rows_from}

-- the rows that a sheet's bytes hold, in their order
abbrev pub rows_of : List ℕ → List Row
rows_of bytes = rows_at (rows_in bytes) (body_in bytes)

-- the rows of a sheet that was read
abbrev pub sheet_rows : Sheet → List Row
sheet_rows s = rows_from s.body.words.now s.body.cues.now

abbrev pub module_count : Sheet → ℕ
module_count s = s.modules

-- what a look past the last row would give; no call does
abbrev pub no_row : Row
no_row = record { group = 0; null = false; filtered = false; cue = pos 0 }

abbrev pub accepted_rows : List Row → List Row
accepted_rows rows = filter (λ r. not r.filtered) rows

abbrev pub summary_of : ℕ → List Row → Summary
summary_of modules rows = record {
  rows = length rows;
  modules = modules;
  accepted = length (accepted_rows rows);
  nulls = length (filter (λ r. r.null) (accepted_rows rows));
  filtered = length (filter (λ r. r.filtered) rows);
}

abbrev pub body_checks : ℕ → ℕ → List ℕ → Checks
body_checks rows modules body =
    (not (length body == 12 * rows), SheetLength)
    ∷ (nat_lt 2048 rows || nat_lt 2048 modules, SheetTooLarge)
    ∷ (not (list_all (λ w. nat_lt w 262144) (words_at rows body)), UnknownWordBit)
    ∷ (not (list_all (λ w. nat_lt (w % 65536) modules) (words_at rows body)), ModuleOutOfRange)
    ∷ []

abbrev pub sheet_checks : List ℕ → Checks
sheet_checks bytes = (nat_lt (length bytes) 8, SheetLength) ∷ body_checks (rows_in bytes) (modules_in bytes) (body_in bytes)

abbrev pub row_checks : Sheet → ℕ → Checks
row_checks s i = (nat_le (length (sheet_rows s)) i, IndexOutOfRange) ∷ []
