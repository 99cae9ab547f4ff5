-- What a vector over a lent slice holds, and what lies in the slice behind it.
use Rattle.std.specs.Prelude.{◌≡◌, ℕ, List, take, drop}
use Rattle.std.specs.Borrow.{MutBor}
use Rattle.slices.specs.declared.slice_vec.SliceVec.{SliceVec}

-- all places of the slice
abbrev pub places : {X : Type 0} → SliceVec X → List X
places v = v.slots.now

-- how many values the vector holds
abbrev pub slice_vec_len : {X : Type 0} → SliceVec X → ℕ
slice_vec_len v = v.len

-- the values, which stand at the slice's front
abbrev pub values : {X : Type 0} → SliceVec X → List X
values v = take v.len v.slots.now

-- what lies in the places behind them
abbrev pub spare_places : {X : Type 0} → SliceVec X → List X
spare_places v = drop v.len v.slots.now

-- the vector writes through this reference, so the slice that was lent ends as the vector's places
abbrev pub WritesTo : {X : Type 0} → SliceVec X → MutBor (List X) → Type 0
WritesTo v slots = v.slots.ghost_name ≡ slots.ghost_name

-- a vector still writes through the reference that it wrote through before
abbrev pub KeepsSlice : {X : Type 0} → SliceVec X → SliceVec X → Type 0
KeepsSlice old new = new.slots.ghost_name ≡ old.slots.ghost_name
