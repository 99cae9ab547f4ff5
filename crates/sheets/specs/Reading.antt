-- The rows that a body holds, by its places and by its words and cues.
use Rattle.std.specs.Prelude.{ℕ, ◌+◌, ◌*◌, ◌/◌, ◌%◌, List, map, ◌==◌}
use Rattle.std.specs.Int.{w32, w64, cast_signed, from_le_bytes}
use Rattle.std.specs.List.{range_with_len, zip}
use Rattle.sheets.specs.declared.row.Row.{Row}
use Rattle.sheets.specs.Bytes.{le8}
use Rattle.sheets.specs.Layout.{word_at}

-- the row that a word and a cue say: bits 0 to 15 of the word are its module, bit 16 marks a null, bit 17 a row that is filtered out
abbrev pub row_from : ℕ → ℕ → Row
row_from word cue = record {
  group = word % 65536;
  null = (word / 65536 % 2 == 1);
  filtered = (word / 131072 % 2 == 1);
  cue = cast_signed w64 cue;
}

-- row i of a body of so many rows
abbrev pub row_at : ℕ → List ℕ → ℕ → Row
row_at rows body i = row_from (word_at body i) (le8 body (4 * rows + 8 * i))

abbrev pub rows_at : ℕ → List ℕ → List Row
rows_at rows body = map (row_at rows body) (range_with_len 0 rows)

-- the rows that words and cues say, each of these as its bytes
abbrev pub rows_from : List (List ℕ) → List (List ℕ) → List Row
rows_from words cues = map (λ p. row_from (from_le_bytes w32 p.0) (from_le_bytes w64 p.1)) (zip words cues)
