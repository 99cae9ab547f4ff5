-- What a validity map says of its rows, and what the calls on one answer.
use Rattle.std.specs.Prelude.{◌≡◌, ℕ, ◌*◌, ◌<◌, ◌≤◌, Bool, false, not, ◌&&◌, List, [], ◌∷◌, ◌++◌, map, length, drop, count_by, ◌==◌, nat_le, nat_lt, slice_index_or}
use Rattle.std.specs.List.{range_with_len}
use Rattle.refusals.specs.declared.Refusal.TheVariants.{TooManyRows, CountsDiffer, MapTooShort, IndexOutOfRange, OutputTooShort}
use Rattle.refusals.specs.Checks.{Checks}
use Rattle.bitmap.specs.declared.validity.Validity.{Validity}
use Rattle.bitmap.specs.Bits.{bytes_for, valid_at, map_of}

-- how many rows a map has
abbrev pub row_count : Validity → ℕ
row_count m = m.rows

-- row i of a map is valid; every promise about a map's rows goes through this definition
abbrev pub row_valid : Validity → ℕ → Bool
row_valid m i = valid_at m.bytes.now i

-- the rows of a map in their order, true for a valid one
abbrev pub valid_rows : Validity → List Bool
valid_rows m = map (row_valid m) (range_with_len 0 (row_count m))

-- how many rows of a map are null
abbrev pub null_count : Validity → ℕ
null_count m = count_by not (valid_rows m)

-- in a united map a row is valid where both maps call it so
abbrev pub both_valid : Validity → Validity → ℕ → Bool
both_valid a b i = row_valid a i && row_valid b i

abbrev pub flag_at : List Bool → ℕ → Bool
flag_at flags i = slice_index_or flags i false

abbrev pub map_checks : List ℕ → ℕ → Checks
map_checks bytes rows = (nat_lt 1048576 rows, TooManyRows) ∷ (nat_lt (length bytes) (bytes_for rows), MapTooShort) ∷ []

abbrev pub row_checks : Validity → ℕ → Checks
row_checks m i = (nat_le (row_count m) i, IndexOutOfRange) ∷ []

abbrev pub write_checks : List Bool → List ℕ → Checks
write_checks flags out = (nat_lt 1048576 (length flags), TooManyRows) ∷ (nat_lt (length out) (bytes_for (length flags)), OutputTooShort) ∷ []

abbrev pub unite_checks : Validity → Validity → List ℕ → Checks
unite_checks a b out = (not (row_count a == row_count b), CountsDiffer) ∷ (nat_lt (length out) (bytes_for (row_count a)), OutputTooShort) ∷ []

-- a map of so many rows, of which f says which are valid, was written over the front of a buffer: each row reads as f says,
-- bits past the last row are clear, and the bytes past the map are as they were
pub record MapWritten (f : ℕ → Bool) (rows : ℕ) (before after : List ℕ) : Type 0 where
  pub reads : (i : ℕ) → i < rows → valid_at after i ≡ f i
  pub spare : (i : ℕ) → rows ≤ i → i < 8 * bytes_for rows → valid_at after i ≡ false
  pub bytes : after ≡ map_of f rows ++ drop (bytes_for rows) before
