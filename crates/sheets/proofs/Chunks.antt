-- The words and cues that a body is cut into say what its places say.
use Rattle.std.proofs.Common.{◌≡◌, ℕ, zero, suc, ◌+◌, ◌*◌, ◌<◌, List, [], add-zero, length, map, take, drop, get_or, slice_index, refl, ap, ap₂, ◌∙◌, sym, arith}
use Rattle.std.specs.Int.{w32, w64, from_le_bytes}
use Rattle.std.specs.List.{zip}
use Rattle.std.specs.Simd.{first_chunks}
use Rattle.std.proofs.lemmas.List.{get_or-take, get_or-drop, drop-drop, get_or-map, length-map}
use Rattle.std.proofs.lemmas.List.FromFn.{fill_by_all}
use Rattle.std.proofs.lemmas.Slice.Zip.{length-zip, get_or-zip}
use Rattle.sheets.specs.declared.row.Row.{Row}
use Rattle.sheets.specs.Reading.{row_from, row_at, rows_from, rows_at}
use Rattle.sheets.specs.Bytes.{le4, le8}
use Rattle.sheets.specs.Layout.{word_at, words_at}

length-first_chunks : {X : Type 0} (size n : ℕ) (xs : List X) → length (first_chunks size n xs) ≡ n
length-first_chunks size zero xs = refl
length-first_chunks size (suc n) xs = ap (λ (k : ℕ). suc k) (length-first_chunks size n (drop size xs))

get_or-first_chunks : {X : Type 0} (size n : ℕ) (xs : List X) (i : ℕ) (d : List X) → i < n → get_or (first_chunks size n xs) i d ≡ take size (drop (size * i) xs)
get_or-first_chunks size zero xs i d h = absurd (omega arith)
get_or-first_chunks size (suc n) xs zero d h = let front : size * 0 ≡ 0 = omega arith in rw front
get_or-first_chunks size (suc n) xs (suc i) d h =
    let next : size * suc i ≡ size + size * i = omega arith in
    rw (next, ← drop-drop (size * i) size xs) (get_or-first_chunks size n (drop size xs) i d (omega arith))

-- byte j of chunk k
chunk_byte : (size n : ℕ) (xs : List ℕ) (k j : ℕ) (d : List ℕ) → k < n → j < size → slice_index (get_or (first_chunks size n xs) k d) j ≡ slice_index xs (size * k + j)
chunk_byte size n xs k j d within small =
    ap (λ c. slice_index c j) (get_or-first_chunks size n xs k d within)
    ∙ get_or-take size (drop (size * k) xs) j 0 small
    ∙ get_or-drop (size * k) xs j 0

-- a chunk that holds the bytes from place p on is the number there
module _ (chunk xs : List ℕ) (p : ℕ) where
  four_at : ((j : ℕ) → j < 4 → slice_index chunk j ≡ slice_index xs (p + j)) → from_le_bytes w32 chunk ≡ le4 xs p
  four_at same = simp (same 0 (omega arith), same 1 (omega arith), same 2 (omega arith), same 3 (omega arith), add-zero)

  eight_at : ((j : ℕ) → j < 8 → slice_index chunk j ≡ slice_index xs (p + j)) → from_le_bytes w64 chunk ≡ le8 xs p
  eight_at same =
      simp (same 0 (omega arith), same 1 (omega arith), same 2 (omega arith), same 3 (omega arith), same 4 (omega arith), same 5 (omega arith), same 6 (omega arith), same 7 (omega arith), add-zero)

module _ (words cues : List (List ℕ)) where
  abbrev said : List ℕ × List ℕ → Row
  said p = row_from (from_le_bytes w32 p.0) (from_le_bytes w64 p.1)

  pub length-rows_from : length cues ≡ length words → length (rows_from words cues) ≡ length words
  length-rows_from level = length-map (zip words cues) said ∙ length-zip words cues ∙ omega (arith, level)

  pub get_or-rows_from : (k : ℕ) → k < length words → k < length cues → (d : Row) → get_or (rows_from words cues) k d ≡ row_from (from_le_bytes w32 (get_or words k [])) (from_le_bytes w64 (get_or cues k []))
  get_or-rows_from k in_words in_cues d =
      get_or-map said (zip words cues) k ([], []) d (omega (arith, length-zip words cues)) ∙ ap said (get_or-zip words cues k ([], []) in_words in_cues)

-- the words and cues of a body of so many rows
module _ (rows : ℕ) (body : List ℕ) where
  abbrev pub words_in : List (List ℕ)
  words_in = first_chunks 4 rows (take (4 * rows) body)

  abbrev pub cues_in : List (List ℕ)
  cues_in = first_chunks 8 rows (drop (4 * rows) body)

  words_long : length words_in ≡ rows
  words_long = length-first_chunks 4 rows (take (4 * rows) body)

  cues_long : length cues_in ≡ rows
  cues_long = length-first_chunks 8 rows (drop (4 * rows) body)

  word_is : (k : ℕ) (d : List ℕ) → k < rows → from_le_bytes w32 (get_or words_in k d) ≡ word_at body k
  word_is k d h =
      four_at (get_or words_in k d) body (4 * k)
      (λ j small. chunk_byte 4 rows (take (4 * rows) body) k j d h small ∙ get_or-take (4 * rows) body (4 * k + j) 0 (omega arith))

  cue_is : (k : ℕ) (d : List ℕ) → k < rows → from_le_bytes w64 (get_or cues_in k d) ≡ le8 body (4 * rows + 8 * k)
  cue_is k d h =
      eight_at (get_or cues_in k d) body (4 * rows + 8 * k)
      (λ j small.
      let place : 4 * rows + 8 * k + j ≡ 4 * rows + (8 * k + j) = omega arith in
      rw place (chunk_byte 8 rows (drop (4 * rows) body) k j d h small ∙ get_or-drop (4 * rows) body (8 * k + j) 0))

  pub words_are : map (from_le_bytes w32) words_in ≡ words_at rows body
  words_are =
      fill_by_all (word_at body) (map (from_le_bytes w32) words_in) rows 0
      (length-map words_in (from_le_bytes w32) ∙ words_long)
      (λ k h. get_or-map (from_le_bytes w32) words_in k [] 0 (omega (arith, words_long)) ∙ word_is k [] h)

  pub rows_are : rows_from words_in cues_in ≡ rows_at rows body
  rows_are =
      fill_by_all (row_at rows body) (rows_from words_in cues_in) rows (row_at rows body 0)
      (length-rows_from words_in cues_in (cues_long ∙ sym words_long) ∙ words_long)
      (λ k h.
      get_or-rows_from words_in cues_in k (omega (arith, words_long)) (omega (arith, cues_long)) (row_at rows body 0)
      ∙ ap₂ row_from (word_is k [] h) (cue_is k [] h))
