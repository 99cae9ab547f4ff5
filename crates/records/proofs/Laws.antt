-- The laws of records: their lists by group, what remains of them, and what batches and columns bring.
use Rattle.std.proofs.Common.{◌≡◌, ℕ, zero, suc, ◌+◌, ◌-◌, ◌<◌, ◌≤◌, Bool, true, false, cond, ◌&&◌, eqb, leb, ◌⊎◌, List, [], ◌∷◌, ◌++◌, map, length, get_or, ℤ, count_by, filter, Option, Some, None, sym, refl, ap, ◌∙◌, inl, inr, arith}
use Rattle.std.specs.Prelude.{All}
use Rattle.std.specs.List.{between, cons_option, enumerate_from, filter_map, zip}
use Rattle.std.proofs.lemmas.List.Elements.{filter-append, All-append, All-cons, All-get_or, All-head, All-nil, All-tail}
use Rattle.std.proofs.lemmas.List.{length-map, map-append}
use Rattle.std.proofs.lemmas.List.FromFn.{length-enumerate_from}
use Rattle.std.proofs.lemmas.List.Sums.{count_by-le-length, length-filter}
use Rattle.std.proofs.lemmas.Slice.Zip.{length-zip}
use Rattle.std.proofs.lemmas.Bool.{cases_Bool, cond_both, cond-true, cond-false, leb-false, leb-true, ne_eqb}
use Rattle.std.proofs.lemmas.Bool.Decides.{nat_tests}
use Rattle.columns.specs.Merging.{valid_cells}
use Rattle.columns.specs.Offsets.{start_of}
use Rattle.records.specs.declared.record.Record.{Record}
use Rattle.columns.specs.Policies.{passes}
use Rattle.records.specs.Batches.{accepted_from, marked, merged_records}
use Rattle.records.specs.Records.{list_of, lowered, without}

-- a map of a list that has its first only where a test passes
map_kept : {X Y : Type 0} (f : X → Y) (b : Bool) (x : X) (xs : List X) → map f (cond b (x ∷ xs) xs) ≡ cond b (f x ∷ map f xs) (map f xs)
map_kept f true x xs = refl
map_kept f false x xs = refl

module _ {K : Type 0} where
  -- lists of records one after another
  pub list_append : (j : ℕ) (xs ys : List (Record K)) → list_of j (xs ++ ys) ≡ list_of j xs ++ list_of j ys
  list_append j xs ys =
      ap (map (λ (r : Record K). r.cell)) (filter-append (λ r. eqb r.group j) xs ys)
      ∙ map-append (λ (r : Record K). r.cell) (filter (λ r. eqb r.group j) xs) (filter (λ r. eqb r.group j) ys)

  pub without_append : (n : ℕ) (xs ys : List (Record K)) → without n (xs ++ ys) ≡ without n xs ++ without n ys
  without_append n xs ys =
      ap (map (lowered n)) (filter-append (λ r. leb n r.group) xs ys)
      ∙ map-append (lowered n) (filter (λ r. leb n r.group) xs) (filter (λ r. leb n r.group) ys)

  -- one record more in front
  pub without_yes : (n : ℕ) (x : Record K) (xs : List (Record K)) → leb n x.group ≡ true → without n (x ∷ xs) ≡ lowered n x ∷ without n xs
  without_yes n x xs e = ap (map (lowered n)) (cond-true (leb n x.group) (x ∷ filter (λ r. leb n r.group) xs) (filter (λ r. leb n r.group) xs) e)

  pub without_no : (n : ℕ) (x : Record K) (xs : List (Record K)) → leb n x.group ≡ false → without n (x ∷ xs) ≡ without n xs
  without_no n x xs e = ap (map (lowered n)) (cond-false (leb n x.group) (x ∷ filter (λ r. leb n r.group) xs) (filter (λ r. leb n r.group) xs) e)

  pub list_cons : (j : ℕ) (x : Record K) (xs : List (Record K)) → list_of j (x ∷ xs) ≡ cond (eqb x.group j) (x.cell ∷ list_of j xs) (list_of j xs)
  list_cons j x xs = map_kept (λ (r : Record K). r.cell) (eqb x.group j) x (filter (λ r. eqb r.group j) xs)

  -- the list of a group that no record has
  pub list_none : (j : ℕ) (xs : List (Record K)) → All (λ r. r.group ≡ j → ⊥) xs → list_of j xs ≡ []
  list_none j [] h = refl
  list_none j (x ∷ xs) h = list_cons j x xs ∙ cond-false (eqb x.group j) (x.cell ∷ list_of j xs) (list_of j xs) (ne_eqb x.group j (All-head (λ r. r.group ≡ j → ⊥) x xs h)) ∙ list_none j xs (All-tail (λ r. r.group ≡ j → ⊥) x xs h)

  -- the lists that remain keep their cells
  pub list_without : (j n : ℕ) (xs : List (Record K)) → list_of j (without n xs) ≡ list_of (n + j) xs
  list_without j n [] = refl
  list_without j n (x ∷ xs) = go (cases_Bool (leb n x.group)) (list_without j n xs)
    where
      go : (leb n x.group ≡ true) ⊎ (leb n x.group ≡ false) → list_of j (without n xs) ≡ list_of (n + j) xs → list_of j (without n (x ∷ xs)) ≡ list_of (n + j) (x ∷ xs)
      go (inl e) ih =
          let low = leb-true n x.group e in
          let same : eqb (x.group - n) j ≡ eqb x.group (n + j) = grind (arith, nat_tests) in
          ap (list_of j) (without_yes n x xs e) ∙ list_cons j (lowered n x) (without n xs)
          ∙ ap (λ (b : Bool). cond b (x.cell ∷ list_of j (without n xs)) (list_of j (without n xs))) same
          ∙ ap (λ t. cond (eqb x.group (n + j)) (x.cell ∷ t) t) ih
          ∙ sym (list_cons (n + j) x xs)
      go (inr e) ih =
          let low = leb-false n x.group e in
          ap (list_of j) (without_no n x xs e) ∙ ih
          ∙ sym (list_cons (n + j) x xs ∙ cond-false (eqb x.group (n + j)) (x.cell ∷ list_of (n + j) xs) (list_of (n + j) xs) (ne_eqb x.group (n + j) (λ q. omega arith)))

  -- how many remain
  pub length_without : (n : ℕ) (xs : List (Record K)) → length (without n xs) ≡ count_by (λ r. leb n r.group) xs
  length_without n xs = length-map (filter (λ r. leb n r.group) xs) (lowered n) ∙ length-filter (λ r. leb n r.group) xs

  pub without_le : (n : ℕ) (xs : List (Record K)) → length (without n xs) ≤ length xs
  without_le n xs = omega (arith, length_without n xs, count_by-le-length (λ r. leb n r.group) xs)

  -- the groups that remain are below the count that remains
  pub below_without : (n count : ℕ) (xs : List (Record K)) → All (λ r. r.group < count) xs → All (λ r. r.group < count - n) (without n xs)
  below_without n count [] h = All-nil (λ (r : Record K). r.group < count - n)
  below_without n count (x ∷ xs) h = go (cases_Bool (leb n x.group)) (below_without n count xs (All-tail (λ (r : Record K). r.group < count) x xs h))
    where
      go : (leb n x.group ≡ true) ⊎ (leb n x.group ≡ false) → All (λ r. r.group < count - n) (without n xs) → All (λ r. r.group < count - n) (without n (x ∷ xs))
      go (inl e) ih =
          let low = leb-true n x.group e in
          let under = All-head (λ (r : Record K). r.group < count) x xs h in
          let lower : x.group - n < count - n = omega arith in
          rw (without_yes n x xs e) (All-cons (λ (r : Record K). r.group < count - n) (lowered n x) (without n xs) lower ih)
      go (inr e) ih = rw (without_no n x xs e) ih

  -- the records that come out of `filter_map` are those that remain
  pub without_filter_map : (n : ℕ) (xs : List (Record K)) → filter_map (λ r. cond (leb n r.group) (Some (lowered n r)) None) xs ≡ without n xs
  without_filter_map n [] = refl
  without_filter_map n (x ∷ xs) = ap (cons_option (cond (leb n x.group) (Some (lowered n x)) None)) (without_filter_map n xs) ∙ go (leb n x.group)
    where
      go : (b : Bool) → cons_option (cond b (Some (lowered n x)) None) (without n xs) ≡ map (lowered n) (cond b (x ∷ filter (λ r. leb n r.group) xs) (filter (λ r. leb n r.group) xs))
      go true = refl
      go false = refl

  -- the record that a row brings
  abbrev pub record_of : ℕ × (ℕ × Option K) → Record K
  record_of row = record { group = row.1.0; cell = row.1.1 }

  -- of a batch, no more records are accepted than it has groups, and each for one of those
  module _ (ignore : Bool) (marks : Option (List Bool)) where
    abbrev pub accepts : ℕ × (ℕ × Option K) → Bool
    accepts row = marked marks row.0 && passes ignore row.1.1

    pub length_accepted : (i : ℕ) (groups : List ℕ) (cells : List (Option K)) → length (accepted_from ignore marks i groups cells) ≡ length (filter accepts (enumerate_from i (zip groups cells)))
    length_accepted i groups cells = length-map (filter accepts (enumerate_from i (zip groups cells))) record_of

    -- one row more in front
    pub accepted_cons : (i group : ℕ) (cell : Option K) (groups : List ℕ) (cells : List (Option K))
        → accepted_from ignore marks i (group ∷ groups) (cell ∷ cells)
        ≡ cond (marked marks i && passes ignore cell) (record { group = group; cell = cell } ∷ accepted_from ignore marks (i + 1) groups cells) (accepted_from ignore marks (i + 1) groups cells)
    accepted_cons i group cell groups cells = map_kept record_of (marked marks i && passes ignore cell) (i, (group, cell)) (filter accepts (enumerate_from (i + 1) (zip groups cells)))

    pub accepted_le : (i : ℕ) (groups : List ℕ) (cells : List (Option K)) → length (accepted_from ignore marks i groups cells) ≤ length groups
    accepted_le i groups cells =
        let rows = enumerate_from i (zip groups cells) in
        omega (arith, length_accepted i groups cells, length-filter accepts rows, count_by-le-length accepts rows, length-enumerate_from i (zip groups cells), length-zip groups cells)

    pub below_accepted : (count i : ℕ) (groups : List ℕ) (cells : List (Option K)) → All (λ group. group < count) groups → All (λ (r : Record K). r.group < count) (accepted_from ignore marks i groups cells)
    below_accepted count i [] cells h = All-nil (λ (r : Record K). r.group < count)
    below_accepted count i (group ∷ groups) [] h = All-nil (λ (r : Record K). r.group < count)
    below_accepted count i (group ∷ groups) (cell ∷ cells) h =
        let under = All-head (λ (m : ℕ). m < count) group groups h in
        let later = below_accepted count (i + 1) groups cells (All-tail (λ (m : ℕ). m < count) group groups h) in
        rw (accepted_cons i group cell groups cells)
        (cond_both (marked marks i && passes ignore cell) (record { group = group; cell = cell } ∷ accepted_from ignore marks (i + 1) groups cells) (accepted_from ignore marks (i + 1) groups cells)
        (All (λ (r : Record K). r.group < count))
        (λ _. All-cons (λ (r : Record K). r.group < count) (record { group = group; cell = cell }) (accepted_from ignore marks (i + 1) groups cells) under later)
        (λ _. later))

  -- a cell that goes to a group
  abbrev pub for_group : ℕ → Option K → Record K
  for_group group cell = record { group = group; cell = cell }

  map_cells : (group : ℕ) (cells : List (Option K)) → map (λ (r : Record K). r.cell) (map (for_group group) cells) ≡ cells
  map_cells group [] = refl
  map_cells group (cell ∷ cells) = ap (λ t. cell ∷ t) (map_cells group cells)

  module _ (valid : ℕ → Bool) (offsets : List ℤ) (cells : List (Option K)) (groups : List ℕ) where
    -- what row n of a column brings
    abbrev pub Brought : ℕ → List (Record K)
    Brought n = cond (valid n) (map (for_group (get_or groups n 0)) (between (start_of offsets n) (start_of offsets (n + 1)) cells)) []

    -- the records of a column carry the cells of its valid lists
    pub cells_merged : (n : ℕ) → map (λ (r : Record K). r.cell) (merged_records valid offsets cells groups n) ≡ valid_cells valid offsets cells n
    cells_merged zero = refl
    cells_merged (suc n) =
        map-append (λ (r : Record K). r.cell) (merged_records valid offsets cells groups n) (Brought n)
        ∙ ap (λ t. t ++ map (λ (r : Record K). r.cell) (Brought n)) (cells_merged n)
        ∙ ap (λ t. valid_cells valid offsets cells n ++ t) (row (valid n) (between (start_of offsets n) (start_of offsets (n + 1)) cells))
      where
        row : (b : Bool) (part : List (Option K)) → map (λ (r : Record K). r.cell) (cond b (map (for_group (get_or groups n 0)) part) []) ≡ cond b part []
        row true part = map_cells (get_or groups n 0) part
        row false part = refl

    -- and each is for one of the groups
    pub below_merged : (count n : ℕ) → n ≤ length groups → All (λ group. group < count) groups → All (λ (r : Record K). r.group < count) (merged_records valid offsets cells groups n)
    below_merged count zero l h = All-nil (λ (r : Record K). r.group < count)
    below_merged count (suc n) l h =
        All-append (λ (r : Record K). r.group < count) (merged_records valid offsets cells groups n) (Brought n) (below_merged count n (omega arith) h) (row (valid n) (between (start_of offsets n) (start_of offsets (n + 1)) cells))
      where
        each : (part : List (Option K)) → All (λ (r : Record K). r.group < count) (map (for_group (get_or groups n 0)) part)
        each [] = All-nil (λ (r : Record K). r.group < count)
        each (cell ∷ part) =
            All-cons (λ (r : Record K). r.group < count) (for_group (get_or groups n 0) cell) (map (for_group (get_or groups n 0)) part) (All-get_or (λ (m : ℕ). m < count) groups n 0 (omega arith) h) (each part)

        row : (b : Bool) (part : List (Option K)) → All (λ (r : Record K). r.group < count) (cond b (map (for_group (get_or groups n 0)) part) [])
        row true part = each part
        row false part = All-nil (λ (r : Record K). r.group < count)
