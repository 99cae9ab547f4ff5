-- A row of values at the front of a slice, with one more or one less at a place.
use Rattle.std.specs.Prelude.{ℕ, ◌+◌, List, ◌∷◌, ◌++◌, take, drop}
use Rattle.std.specs.List.{insert, remove}

-- the slice after a value came in at a place among the held ones
abbrev pub with_value : {X : Type 0} → List X → ℕ → ℕ → X → List X
with_value slots held at value = insert (take held slots) at value ++ drop (held + 1) slots

-- the slice after the value at a place went from among the held ones, and another was left in the last of their places
abbrev pub without_value : {X : Type 0} → List X → ℕ → ℕ → X → List X
without_value slots held at spare = remove (take held slots) at ++ spare ∷ drop held slots
