-- A validity map that is clear, and one of whose bits is marked.
use Rattle.std.specs.Prelude.{◌≡◌, ℕ, ◌/◌, ◌<◌, Bool, ◌||◌, List, ◌≢◌, slice_index}
use Rattle.bitmap.specs.Bits.{bytes_for, valid_at}

-- no row of the first so many is valid, nor is a spare bit set
abbrev pub Clear : ℕ → List ℕ → Type 0
Clear rows map = (k : ℕ) → k < bytes_for rows → slice_index map k ≡ 0

-- row i is valid if b says so or it was valid before; the other rows are as they were, and so are the bytes without row i
pub record Marked (b : Bool) (i : ℕ) (before after : List ℕ) : Type 0 where
  pub here : valid_at after i ≡ (b || valid_at before i)
  pub others : (j : ℕ) → (j ≢ i) → valid_at after j ≡ valid_at before j
  pub byte : slice_index after (i / 8) < 256
  pub bytes : (k : ℕ) → (k ≢ i / 8) → slice_index after k ≡ slice_index before k
