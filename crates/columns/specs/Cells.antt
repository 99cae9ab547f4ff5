-- Cells: cues beside a validity map.
use Rattle.std.specs.Prelude.{ℕ, ◌+◌, Bool, not, List, [], ◌∷◌, length, ◌==◌, nat_lt, Option}
use Rattle.std.specs.Bool.{then_some}
use Rattle.refusals.specs.declared.Refusal.TheVariants.{TooManyRows, CountsDiffer, MapTooShort}
use Rattle.refusals.specs.Checks.{Checks}
use Rattle.bitmap.specs.Bits.{bytes_for, valid_at}
use Rattle.bitmap.specs.Maps.{map_checks}
use Rattle.columns.specs.declared.cells.CellParts.{CellParts}

-- the cells of these cues, the first of which is row i, where valid says which rows are valid
abbrev pub cells_from : {K : Type 0} → (ℕ → Bool) → ℕ → List K → List (Option K)
cells_from valid i [] = []
cells_from valid i (cue ∷ cues) = then_some (valid i) cue ∷ cells_from valid (i + 1) cues

-- the cells that a caller passes
abbrev pub passed_cells : {K : Type 0} → CellParts K → List (Option K)
passed_cells p = cells_from (valid_at p.map.now) 0 p.cues.now

-- as many cues as rows, and a map for them
abbrev pub level_checks : {K : Type 0} → CellParts K → Checks
level_checks p = (not (length p.cues.now == p.rows), CountsDiffer) ∷ map_checks p.map.now p.rows

abbrev pub batch_checks : {K : Type 0} → CellParts K → Checks
batch_checks p =
    (nat_lt 65536 p.rows, TooManyRows)
    ∷ (not (length p.cues.now == p.rows), CountsDiffer)
    ∷ (nat_lt (length p.map.now) (bytes_for p.rows), MapTooShort)
    ∷ []
