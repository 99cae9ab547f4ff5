-- Where a sheet's parts lie in its bytes: a header of two sizes, then the body, a word for each row and then a cue for each row.
use Rattle.std.specs.Prelude.{◌≡◌, ℕ, ◌*◌, ◌%◌, ◌<◌, ◌≤◌, List, length, map, drop}
use Rattle.std.specs.List.{range_with_len}
use Rattle.sheets.specs.Bytes.{le4}

abbrev pub rows_in : List ℕ → ℕ
rows_in bytes = le4 bytes 0

abbrev pub modules_in : List ℕ → ℕ
modules_in bytes = le4 bytes 4

abbrev pub body_in : List ℕ → List ℕ
body_in bytes = drop 8 bytes

-- the word of row i
abbrev pub word_at : List ℕ → ℕ → ℕ
word_at body i = le4 body (4 * i)

-- the words of so many rows, in their order
abbrev pub words_at : ℕ → List ℕ → List ℕ
words_at rows body = map (word_at body) (range_with_len 0 rows)

-- the module of row i: bits 0 to 15 of its word
abbrev pub module_at : List ℕ → ℕ → ℕ
module_at body i = word_at body i % 65536

-- the rules of a body, of so many rows for so many modules
pub record GoodBody (rows modules : ℕ) (body : List ℕ) : Type 0 where
  pub sized : length body ≡ 12 * rows
  pub rows_fit : rows ≤ 2048
  pub modules_fit : modules ≤ 2048
  -- no bit above bit 17 is set
  pub words_known : (i : ℕ) → i < rows → word_at body i < 262144
  pub modules_known : (i : ℕ) → i < rows → module_at body i < modules

-- the bytes are those of a sheet
pub record GoodSheet (bytes : List ℕ) : Type 0 where
  pub header : 8 ≤ length bytes
  pub body : GoodBody (rows_in bytes) (modules_in bytes) (body_in bytes)
