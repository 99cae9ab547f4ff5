-- The offsets of a list column: offset i is where row i starts, and the next one where it ends.
use Rattle.std.specs.Prelude.{◌≡◌, ℕ, zero, suc, ◌+◌, ◌<◌, Bool, true, ◌&&◌, List, length, ℤ, pos, negsuc, ◌≤ℤ◌, ◌==◌, int_le, slice_index_or}

abbrev pub offset_at : List ℤ → ℕ → ℤ
offset_at offsets i = slice_index_or offsets i (pos 0)

-- the rules of the offsets of so many rows over so many cells: one more than the rows, none negative, none below the one
-- before it, and the last within the cells
pub record GoodOffsets (offsets : List ℤ) (rows cells : ℕ) : Type 0 where
  pub long : length offsets ≡ rows + 1
  pub first : pos 0 ≤ℤ offset_at offsets 0
  pub rising : (i : ℕ) → i < rows → offset_at offsets i ≤ℤ offset_at offsets (i + 1)
  pub last : offset_at offsets rows ≤ℤ pos cells

-- the test for those rules
abbrev pub rises : List ℤ → ℕ → Bool
rises offsets zero = true
rises offsets (suc n) = int_le (offset_at offsets n) (offset_at offsets (n + 1)) && rises offsets n

abbrev pub offsets_keep : List ℤ → ℕ → ℕ → Bool
offsets_keep offsets rows cells = length offsets == rows + 1 && (int_le (pos 0) (offset_at offsets 0) && (rises offsets rows && int_le (offset_at offsets rows) (pos cells)))

abbrev pub natural : ℤ → ℕ
natural (pos n) = n
natural (negsuc n) = 0

-- where row i starts
abbrev pub start_of : List ℤ → ℕ → ℕ
start_of offsets i = natural (offset_at offsets i)
