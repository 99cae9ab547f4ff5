-- A ring in a row of slots: its values stand from one place on, and go on at the row's front where they reach its end.
use Rattle.std.specs.Prelude.{ℕ, ◌+◌, ◌-◌, if◌then◌else◌, List, ◌++◌, take, drop, nat_lt}

-- the n values of the ring that begins at a place
abbrev pub live : {X : Type 0} → ℕ → ℕ → List X → List X
live start n slots = take n (drop start slots ++ take start slots)

-- k places on from a start, in a ring of so many slots
abbrev pub place_at : ℕ → ℕ → ℕ → ℕ
place_at slots start k = if nat_lt (start + k) slots then start + k else start + k - slots
