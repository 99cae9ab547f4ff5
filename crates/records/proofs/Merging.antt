-- The records of a column's lists, list by list: what is left of them, how many they are, and that they are few.
use Rattle.std.proofs.Common.{◌≡◌, ℕ, zero, suc, ◌+◌, ◌-◌, ◌<◌, ◌≤◌, Bool, true, false, cond, List, [], ◌∷◌, ◌++◌, map, length, get_or, drop, sum_by, ℤ, Some, None, sym, refl, ap, ◌∙◌, ◌⊎◌, inl, inr, add-one, arith, Option}
use Rattle.std.specs.List.{between, flat_map, range_with_len, zip}
use Rattle.std.specs.Option.{option_map, option_to_list}
use Rattle.std.proofs.lemmas.List.{flat_map_more, length-append, length-map, length-take}
use Rattle.std.proofs.lemmas.List.FromFn.{length-map-range_with_len, map-range_with_len_more}
use Rattle.std.proofs.lemmas.List.Sums.{sum_by-append}
use Rattle.bitmap.specs.Maps.{row_valid}
use Rattle.columns.specs.declared.column.ListColumn.{ListColumn}
use Rattle.columns.specs.declared.column.Part.{Part}
use Rattle.columns.specs.Columns.{cells_in, column_rows, list_in, part_cells}
use Rattle.columns.specs.Offsets.{GoodOffsets, start_of}
use Rattle.columns.specs.Steps.{lists_in}
use Rattle.columns.proofs.Rules.{start_rises, start_within}
use Rattle.records.specs.declared.record.Record.{Record}
use Rattle.records.specs.Batches.{column_records, merged_records}
use Rattle.records.proofs.Laws.{Brought, for_group}

-- where either side is at its end, no pair is left
pub zip_done : {X Y : Type 0} (xs : List X) (ys : List Y) → (length xs ≡ 0) ⊎ (ys ≡ []) → zip xs ys ≡ []
zip_done [] ys h = refl
zip_done (x ∷ xs) [] h = refl
zip_done (x ∷ xs) (y ∷ ys) (inl e) = absurd (omega arith)
zip_done (x ∷ xs) (y ∷ ys) (inr e) = cc

-- one more behind the second of two lists, where the first goes on
zip_push : {X Y : Type 0} (xs : List X) (ys : List Y) (y : Y) (d : X) → length ys < length xs → zip xs (ys ++ y ∷ []) ≡ zip xs ys ++ (get_or xs (length ys) d, y) ∷ []
zip_push [] ys y d h = absurd (omega arith)
zip_push (x ∷ xs) [] y d h = ap (λ rows. (x, y) ∷ rows) (zip_done xs [] (inr refl))
zip_push (x ∷ xs) (z ∷ ys) y d h = ap (λ rows. (x, z) ∷ rows) (zip_push xs ys y d (omega arith))

module _ {K : Type 0} where
  -- what a list brings for a group
  abbrev pub listed : ℕ → Option (List (Option K)) → List (Record K)
  listed group None = []
  listed group (Some cells) = map (for_group group) cells

  -- what lists bring, each for its group
  abbrev pub brought : List ℕ → List (Option (List (Option K))) → List (Record K)
  brought groups lists = flat_map (λ row. listed row.0 row.1) (zip groups lists)

  pub next_list : {group : ℕ} {list : Option (Part K)} {groups later : List ℕ} {lists others : List (Option (List (Option K)))}
      → (groups ≡ group ∷ later) × (lists ≡ option_map part_cells list ∷ others) → (part : Part K) → list ≡ Some part → brought groups lists ≡ map (for_group group) (part_cells part) ++ brought later others
  next_list {group} {list} {groups} {later} {lists} {others} e part is =
      ap (λ gs. brought gs lists) e.0 ∙ ap (brought (group ∷ later)) e.1 ∙ ap (λ o. listed group (option_map part_cells o) ++ brought later others) is

  pub no_list : (groups : List ℕ) (lists : List (Option (List (Option K)))) → (length groups ≡ 0) ⊎ (lists ≡ []) → brought groups lists ≡ []
  no_list groups lists h = ap (flat_map (λ row. listed row.0 row.1)) (zip_done groups lists h)

  module _ (valid : ℕ → Bool) (offsets : List ℤ) (cells : List (Option K)) where
    -- the first n lists
    abbrev lists_before : ℕ → List (Option (List (Option K)))
    lists_before n = map (list_in valid offsets cells) (range_with_len 0 n)

    lists_more : (n : ℕ) → lists_before (suc n) ≡ lists_before n ++ list_in valid offsets cells n ∷ []
    lists_more n = ap lists_before (sym (add-one n)) ∙ map-range_with_len_more (list_in valid offsets cells) 0 n n (omega arith)

    module _ (groups : List ℕ) where
      -- the records of a column are what its lists bring
      pub merged_brought : (n : ℕ) → n ≤ length groups → merged_records valid offsets cells groups n ≡ brought groups (lists_before n)
      merged_brought zero h = sym (no_list groups [] (inr refl))
      merged_brought (suc n) h =
          ap (λ t. t ++ Brought valid offsets cells groups n) (merged_brought n (omega arith)) ∙ ap (λ t. brought groups (lists_before n) ++ t) (row (valid n) (between (start_of offsets n) (start_of offsets (n + 1)) cells))
          ∙ flat_map_more (λ (row : ℕ × Option (List (Option K))). listed row.0 row.1) [] (zip groups (lists_before n)) (get_or groups n 0, list_in valid offsets cells n)
          ∙ ap (flat_map (λ row. listed row.0 row.1))
          (ap (λ (k : ℕ). zip groups (lists_before n) ++ (get_or groups k 0, list_in valid offsets cells n) ∷ []) (sym long)
          ∙ sym (zip_push groups (lists_before n) (list_in valid offsets cells n) 0 (omega (arith, long))) ∙ ap (zip groups) (sym (lists_more n)))
        where
          long : length (lists_before n) ≡ n
          long = length-map-range_with_len (list_in valid offsets cells) 0 n

          row : (b : Bool) (here : List (Option K)) → cond b (map (for_group (get_or groups n 0)) here) [] ≡ listed (get_or groups n 0) (cond b (Some here) None)
          row true here = refl
          row false here = refl

      -- and as many as the lists have cells
      pub merged_counted : (n : ℕ) → length (merged_records valid offsets cells groups n) ≡ sum_by length (flat_map option_to_list (lists_before n))
      merged_counted zero = refl
      merged_counted (suc n) =
          let more = ap (λ lists. sum_by length (flat_map option_to_list lists)) (lists_more n) ∙ ap (sum_by length) (sym (flat_map_more option_to_list [] (lists_before n) (list_in valid offsets cells n))) in
          let here = row (valid n) (between (start_of offsets n) (start_of offsets (n + 1)) cells) in
          omega (
            arith,
            merged_counted n,
            length-append (merged_records valid offsets cells groups n) (Brought valid offsets cells groups n),
            sum_by-append length (flat_map option_to_list (lists_before n)) (option_to_list (list_in valid offsets cells n)),
          )
        where
          row : (b : Bool) (here : List (Option K)) → length (cond b (map (for_group (get_or groups n 0)) here) []) ≡ sum_by length (option_to_list (cond b (Some here) None))
          row true here = omega (arith, length-map here (for_group (get_or groups n 0)))
          row false here = refl

      -- the first lists have no more cells than lie before the next one
      pub merged_bound : (rows count : ℕ) → GoodOffsets offsets rows count → (i : ℕ) → i ≤ rows → length (merged_records valid offsets cells groups i) ≤ start_of offsets i
      merged_bound rows count good zero h = omega arith
      merged_bound rows count good (suc i) h =
          let le = merged_bound rows count good i (omega arith) in
          let up = start_rises offsets rows count good i (i + 1) (omega arith) (omega arith) in
          let q = ap (start_of offsets) (add-one i) in
          let here = row (valid i) in
          omega (arith, length-append (merged_records valid offsets cells groups i) (Brought valid offsets cells groups i))
        where
          row : (b : Bool) → length (cond b (map (for_group (get_or groups i 0)) (between (start_of offsets i) (start_of offsets (i + 1)) cells)) []) ≤ start_of offsets (i + 1) - start_of offsets i
          row true =
              omega (
                arith,
                length-map (between (start_of offsets i) (start_of offsets (i + 1)) cells) (for_group (get_or groups i 0)),
                length-take (start_of offsets (i + 1) - start_of offsets i) (drop (start_of offsets i) cells),
              )
          row false = omega arith

module _ {K : Type 0} (c : ListColumn K) (groups : List ℕ) where
  pub column_brought : column_rows c ≤ length groups → column_records c groups ≡ brought groups (lists_in c)
  column_brought h = merged_brought (row_valid c.map) c.offsets.now (cells_in c.cells) groups (column_rows c) h

  pub column_counted : sum_by length (flat_map option_to_list (lists_in c)) ≡ length (column_records c groups)
  column_counted = sym (merged_counted (row_valid c.map) c.offsets.now (cells_in c.cells) groups (column_rows c))

  -- the first lists of a column that was read have no more cells than lie behind it
  pub merged_fits : (i : ℕ) → i ≤ column_rows c → length (merged_records (row_valid c.map) c.offsets.now (cells_in c.cells) groups i) ≤ 1048576
  merged_fits i h =
      let good = c.good in
      let a = merged_bound (row_valid c.map) c.offsets.now (cells_in c.cells) groups (column_rows c) (length c.cells.cues.now) good i h in
      let b = start_within c.offsets.now (column_rows c) (length c.cells.cues.now) good i h in
      let level = c.cells.level in
      let few = c.cells.map.few in
      omega arith

  pub column_few : length (column_records c groups) ≤ 1048576
  column_few = merged_fits (column_rows c) (omega arith)
