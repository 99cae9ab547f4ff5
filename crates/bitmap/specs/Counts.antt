-- How many rows of a map are valid, as the parts of the null count say it.
use Rattle.std.specs.Prelude.{ℕ, List, map, count_by}
use Rattle.std.specs.List.{range_with_len}
use Rattle.bitmap.specs.Bits.{valid_at}

-- how many of the first so many rows are valid
abbrev pub valid_in : List ℕ → ℕ → ℕ
valid_in bytes rows = count_by (λ v. v) (map (valid_at bytes) (range_with_len 0 rows))
