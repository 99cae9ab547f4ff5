-- What a ring over a lent slice holds, and where it stands in the slice.
use Rattle.std.specs.Prelude.{◌≡◌, ℕ, List}
use Rattle.std.specs.Borrow.{MutBor}
use Rattle.slices.specs.declared.slice_deque.SliceDeque.{SliceDeque}
use Rattle.slices.specs.Rings.{live}

-- all places of the slice
abbrev pub places : {X : Type 0} → SliceDeque X → List X
places q = q.slots.now

-- the place of the first value
abbrev pub slice_deque_start : {X : Type 0} → SliceDeque X → ℕ
slice_deque_start q = q.start

-- how many values the ring holds
abbrev pub slice_deque_len : {X : Type 0} → SliceDeque X → ℕ
slice_deque_len q = q.len

-- the values, from the first to the last
abbrev pub values : {X : Type 0} → SliceDeque X → List X
values q = live q.start q.len q.slots.now

-- the ring writes through this reference, so the slice that was lent ends as the ring's places
abbrev pub WritesTo : {X : Type 0} → SliceDeque X → MutBor (List X) → Type 0
WritesTo q slots = q.slots.ghost_name ≡ slots.ghost_name

-- a ring still writes through the reference that it wrote through before
abbrev pub KeepsSlice : {X : Type 0} → SliceDeque X → SliceDeque X → Type 0
KeepsSlice old new = new.slots.ghost_name ≡ old.slots.ghost_name
