-- Rows of counted cells in a strict order, and where a cell belongs in one.
use Rattle.std.specs.Prelude.{◌≡◌, ℕ, ◌≤◌, List, length, ◌≢◌, AllPairs, Option}
use Rattle.std.specs.List.{AllWithin}
use Rattle.std.specs.declared.cmp.Ordering.TheVariants.{Less}
use Rattle.std.specs.declared.cmp.Ordering.{Ordering}
use Rattle.rows.specs.declared.counted.Counted.{Counted}

-- each cell comes before every later one
abbrev pub Rising : {K : Type 0} → (Option K → Option K → Ordering) → List (Counted K) → Type 0
Rising order row = AllPairs (λ a b. order a.cell b.cell ≡ Less) row

-- the place of a cell: those before it come before the cell, and those from it on do not
pub record Place {K : Type 0} (order : Option K → Option K → Ordering) (row : List (Counted K)) (cell : Option K) (place : ℕ) : Type 0 where
  pub within : place ≤ length row
  pub before : AllWithin (λ e. order e.cell cell ≡ Less) row 0 place
  pub after : AllWithin (λ e. order e.cell cell ≢ Less) row place (length row)
