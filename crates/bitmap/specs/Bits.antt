-- A validity map over bytes, as Arrow's columnar format has it: eight rows to a byte, the first of them in the lowest bit,
-- and a row's bit is set where the row is valid.
use Rattle.std.specs.Prelude.{ℕ, zero, suc, ◌+◌, ◌-◌, ◌*◌, ◌/◌, ◌%◌, ◌^◌, min, Bool, if◌then◌else◌, List, map, ◌==◌, slice_index}
use Rattle.std.specs.List.{range_with_len}

-- the bytes that a map of so many rows takes
abbrev pub bytes_for : ℕ → ℕ
bytes_for rows = (rows + 7) / 8

-- row i is valid
abbrev pub valid_at : List ℕ → ℕ → Bool
valid_at bytes i = slice_index bytes (i / 8) / 2 ^ (i % 8) % 2 == 1

-- the number whose bits are f start, f (start + 1), .. , so many of them, lowest first
abbrev pub packed : (ℕ → Bool) → ℕ → ℕ → ℕ
packed f start zero = 0
packed f start (suc n) = packed f start n + (if f (start + n) then 2 ^ n else 0)

-- the bytes of the map of so many rows, of which f says which are valid; bits past the last row are clear
abbrev pub map_of : (ℕ → Bool) → ℕ → List ℕ
map_of f rows = map (λ k. packed f (8 * k) (min 8 (rows - 8 * k))) (range_with_len 0 (bytes_for rows))
