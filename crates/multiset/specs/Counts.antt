-- Counted cells: how often each cell is there.
use Rattle.std.specs.Prelude.{◌≡◌, List, map, Bool, false, if◌then◌else◌, ℕ, ◌+◌, ◌<◌, All, AllPairs, sum_by, count_by, Option}
use Rattle.kinds.specs.CellKinds.{same_cell}
use Rattle.rows.specs.declared.counted.Counted.{Counted}

-- the cells of some entries, in their order
abbrev pub cells_of : {K : Type 0} → List (Counted K) → List (Option K)
cells_of es = map (λ e. e.cell) es

-- how often a cell is among some
abbrev pub tally : {K : Type 0} → (K → K → Bool) → Option K → List (Option K) → ℕ
tally same cell cells = count_by (same_cell same cell) cells

-- how often a cell is there, by the counts of some entries
abbrev pub weigh : {K : Type 0} → (K → K → Bool) → Option K → List (Counted K) → ℕ
weigh same cell es = sum_by (λ e. if same_cell same cell e.cell then e.count else 0) es

-- how many are there in all
abbrev pub total : {K : Type 0} → List (Counted K) → ℕ
total es = sum_by (λ e. e.count) es

-- no two entries have equal cells
abbrev pub Apart : {K : Type 0} → (K → K → Bool) → List (Counted K) → Type 0
Apart same es = AllPairs (λ a b. same_cell same a.cell b.cell ≡ false) es

-- every count is above zero
abbrev pub Live : {K : Type 0} → List (Counted K) → Type 0
Live es = All (λ e. 0 < e.count) es

-- each entry whose count is zero has a cell that equals one of these
abbrev pub Emptied : {K : Type 0} → (K → K → Bool) → List (Option K) → List (Counted K) → Type 0
Emptied same cells es = All (λ e. e.count ≡ 0 → 0 < tally same e.cell cells) es

-- one more of a cell than there was
pub record OneMore {K : Type 0} (same : K → K → Bool) (cell : Option K) (before after : List (Counted K)) : Type 0 where
  pub each : (d : Option K) → weigh same d after ≡ (if same_cell same d cell then 1 else 0) + weigh same d before
  pub all : total after ≡ 1 + total before

-- the same cells as often, whatever their order
pub record Alike {K : Type 0} (same : K → K → Bool) (before after : List (Counted K)) : Type 0 where
  pub each : (d : Option K) → weigh same d after ≡ weigh same d before
  pub all : total after ≡ total before
