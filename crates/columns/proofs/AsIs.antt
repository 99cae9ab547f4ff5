-- What is given as the part to merge as it stands, from where the first and the last valid row are.
use Rattle.std.proofs.Common.{◌≡◌, ℕ, ◌+◌, ◌-◌, ◌<◌, ◌≤◌, Bool, true, false, cond, not, eqb, List, map, length, ℤ, Option, Some, None, MatchOption, sym, ap, ◌∙◌, subst, inl, ⊎_elim, arith}
use Rattle.std.specs.List.{range_with_len, between}
use Rattle.std.specs.Option.{unwrap_or}
use Rattle.std.proofs.lemmas.List.FromFn.{get_or-map-range_with_len, length-map-range_with_len}
use Rattle.std.proofs.lemmas.List.Edits.{between_none}
use Rattle.std.proofs.lemmas.List.Sums.{count_by-le-length, get_or-le-sum_by}
use Rattle.std.proofs.lemmas.Bool.{both_ways, cases_Bool, cases_eq, cases_lt, cond-true, cond-false, eq-eqb, ne_eqb}
use Rattle.bitmap.specs.declared.validity.Validity.{Validity}
use Rattle.bitmap.specs.Maps.{null_count, row_count, row_valid}
use Rattle.columns.specs.declared.column.ListColumn.{ListColumn}
use Rattle.columns.specs.declared.column.Part.{Part}
use Rattle.columns.specs.Columns.{PartOf, cells_in, column_rows, part_cells}
use Rattle.columns.specs.Merging.{ColumnGap, RowCovers, RowWhole, column_span, first_valid, merge_span, merged_cells, past_valid, all_whole_from}
use Rattle.columns.specs.Offsets.{start_of}
use Rattle.columns.proofs.Merging.{first_found, first_none, gap_not, merged_run, past_found, valid_none, whole_from, whole_not}

-- where no row is null, each is valid
pub none_null : (m : Validity) → null_count m ≡ 0 → (k : ℕ) → k < row_count m → row_valid m k ≡ true
none_null m e k h =
    ⊎_elim (λ v. v)
    (λ v.
    let at = get_or-map-range_with_len (row_valid m) 0 (row_count m) k k false h (omega arith) in
    let one : ◌≡◌ {A = ℕ} (cond (not (row_valid m k)) 1 0) 1 = cond-true (not (row_valid m k)) 1 0 (ap not v) in
    let here = ap (λ (b : Bool). cond {A = ℕ} (not b) 1 0) at in
    let long = length-map-range_with_len (row_valid m) 0 (row_count m) in
    let most = get_or-le-sum_by (λ (b : Bool). cond (not b) 1 0) (map (row_valid m) (range_with_len 0 (row_count m))) k false (omega arith) in
    absurd (omega arith))
    (cases_Bool (row_valid m k))

pub some_rows : (m : Validity) → (null_count m ≡ 0 → ⊥) → row_count m ≡ 0 → ⊥
some_rows m some e =
    let most = count_by-le-length not (map (row_valid m) (range_with_len 0 (row_count m))) in
    let long = length-map-range_with_len (row_valid m) 0 (row_count m) in
    some (omega arith)

module _ (valid : ℕ → Bool) (offsets : List ℤ) (rows : ℕ) where
  span_empty : rows ≡ 0 → merge_span valid offsets rows ≡ Some (start_of offsets 0, start_of offsets 0)
  span_empty e = cond-true (eqb rows 0) _ _ (eq-eqb rows 0 e)

  span_null : (rows ≡ 0 → ⊥) → first_valid valid rows ≡ rows → merge_span valid offsets rows ≡ Some (0, 0)
  span_null some e = cond-false (eqb rows 0) _ _ (ne_eqb rows 0 some) ∙ cond-true (eqb (first_valid valid rows) rows) _ _ (eq-eqb (first_valid valid rows) rows e)

  module _ (first past : ℕ) (within : first < rows) (first_is : first_valid valid rows ≡ first) (past_is : past_valid valid rows ≡ past) where
    third : merge_span valid offsets rows ≡ cond (all_whole_from valid offsets first past) (Some (start_of offsets first, start_of offsets past)) None
    third =
        cond-false (eqb rows 0) _ _ (ne_eqb rows 0 (λ e. omega arith))
        ∙ cond-false (eqb (first_valid valid rows) rows) _ _ (ne_eqb (first_valid valid rows) rows (λ e. omega arith))
        ∙ ap (λ (x : ℕ). cond (all_whole_from valid offsets x (past_valid valid rows)) (Some (start_of offsets x, start_of offsets (past_valid valid rows))) None) first_is
        ∙ ap (λ (x : ℕ). cond (all_whole_from valid offsets first x) (Some (start_of offsets first, start_of offsets x)) None) past_is

    span_run : all_whole_from valid offsets first past ≡ true → merge_span valid offsets rows ≡ Some (start_of offsets first, start_of offsets past)
    span_run e = third ∙ cond-true (all_whole_from valid offsets first past) _ _ e

    span_gap : all_whole_from valid offsets first past ≡ false → merge_span valid offsets rows ≡ None
    span_gap e = third ∙ cond-false (all_whole_from valid offsets first past) _ _ e

-- what the contract says of a part that is given
abbrev pub Given : {K : Type 0} → ListColumn K → Part K → Type 0
Given c p = (to : ℕ) × (column_span c ≡ Some (p.place, to)) × PartOf c p.place to p

abbrev pub Joined : {K : Type 0} → ListColumn K → Part K → Type 0
Joined c p = (part_cells p ≡ merged_cells c) × (ColumnGap c → ⊥)

module _ {K : Type 0} (c : ListColumn K) (p : Part K) where
  given_from : (from to : ℕ) → column_span c ≡ Some (from, to) → PartOf c from to p → Given c p
  given_from from to span part =
      (to, span ∙ ap (λ (x : ℕ). Some (x, to)) (sym part.place), subst (λ (x : ℕ). PartOf c x to p) (sym part.place) part)

  -- all rows outside a stretch of rows are null, and no null row inside it covers a cell
  pub joined_rows : (from to low high : ℕ) → from ≤ to → to ≤ column_rows c → ((k : ℕ) → k < from → row_valid c.map k ≡ false) → ((k : ℕ) → to ≤ k → k < column_rows c → row_valid c.map k ≡ false)
      → ((k : ℕ) → from ≤ k → k < to → RowWhole c k) → low ≡ start_of c.offsets.now from → high ≡ start_of c.offsets.now to → PartOf c low high p → Joined c p
  joined_rows from to low high l r before after inside low-is high_is part = (
    part.cells ∙ ap (λ (x : ℕ). between x high (cells_in c.cells)) low-is ∙ ap (λ (x : ℕ). between (start_of c.offsets.now from) x (cells_in c.cells)) high_is
        ∙ sym (merged_run (row_valid c.map) c.offsets.now (cells_in c.cells) (column_rows c) (length c.cells.cues.now) c.good from to l r before after inside),
    gap_not (row_valid c.map) c.offsets.now (column_rows c) from to before after inside,
  )

  -- all rows are null
  pub joined_null : ((k : ℕ) → k < column_rows c → row_valid c.map k ≡ false) → PartOf c 0 0 p → Joined c p
  joined_null none part = (
    part.cells ∙ between_none (cells_in c.cells) 0 ∙ sym (valid_none (row_valid c.map) c.offsets.now (cells_in c.cells) (column_rows c) none),
    gap_not (row_valid c.map) c.offsets.now (column_rows c) (column_rows c) (column_rows c) none (λ k a b. absurd (omega arith)) (λ k a b. absurd (omega arith)),
  )

  pub given_null : (column_rows c ≡ 0 → ⊥) → ((k : ℕ) → k < column_rows c → row_valid c.map k ≡ false) → PartOf c 0 0 p → Given c p
  given_null some none part =
      given_from 0 0 (span_null (row_valid c.map) c.offsets.now (column_rows c) some (first_none (row_valid c.map) (column_rows c) none)) part

-- i is the first valid row, or the last one, as the searches for them tell it
abbrev pub IsFirst : {K : Type 0} → ListColumn K → ℕ → Type 0
IsFirst c i = (i < column_rows c) × (row_valid c.map i ≡ true) × ((k : ℕ) → k < i → row_valid c.map k ≡ false)

abbrev pub IsLast : {K : Type 0} → ListColumn K → ℕ → Type 0
IsLast c i = (i < column_rows c) × (row_valid c.map i ≡ true) × ((k : ℕ) → i < k → k < column_rows c → row_valid c.map k ≡ false)

-- where there is a first valid row, the search for the last one finds it
pub last_found : {K : Type 0} (c : ListColumn K) (first : ℕ) → IsFirst c first → (found : Option ℕ) → MatchOption found ((k : ℕ) → k < column_rows c → row_valid c.map k ≡ false) (IsLast c) → IsLast c (unwrap_or found first)
last_found c first low None none = absurd (both_ways (row_valid c.map first) (none first low.0) low.1)
last_found c first low (Some last) high = high

module _ {K : Type 0} (c : ListColumn K) (first last : ℕ) (low : IsFirst c first) (high : IsLast c last) where
  pub in_order : first ≤ last
  in_order = ⊎_elim (λ l. absurd (both_ways (row_valid c.map last) (low.2 last l) high.1)) (λ l. l) (cases_lt last first)

  first_is : first_valid (row_valid c.map) (column_rows c) ≡ first
  first_is = first_found (row_valid c.map) first (column_rows c) low.0 low.2 low.1

  past_is : past_valid (row_valid c.map) (column_rows c) ≡ last + 1
  past_is = past_found (row_valid c.map) last (column_rows c) high.0 high.2 high.1

  -- no null row between the two covers a cell
  module _ (inside : (k : ℕ) → first ≤ k → k < last → RowWhole c k) (p : Part K) (from to : ℕ) (from_is : from ≡ start_of c.offsets.now first) (to_is : to ≡ start_of c.offsets.now (last + 1)) (part : PartOf c from to p) where
    through : (k : ℕ) → first ≤ k → k < last + 1 → RowWhole c k
    through k a b = ⊎_elim (λ e. inl (ap (row_valid c.map) e ∙ high.1)) (λ ne. inside k a (omega arith)) (cases_eq k last)

    pub given_run : Given c p
    given_run =
        given_from c p from to
        (span_run (row_valid c.map) c.offsets.now (column_rows c) first (last + 1) low.0 first_is past_is (whole_from (row_valid c.map) c.offsets.now first (last + 1) through)
        ∙ ap (λ (x : ℕ). Some (x, start_of c.offsets.now (last + 1))) (sym from_is) ∙ ap (λ (x : ℕ). Some (from, x)) (sym to_is))
        part

    pub joined_run : Joined c p
    joined_run = let l = in_order in let h = high.0 in joined_rows c p first (last + 1) from to (omega arith) (omega arith) low.2 (λ k a b. high.2 k (omega arith) b) through from_is to_is part

  -- a null row between the two covers one
  module _ (hole : (k : ℕ) × (first ≤ k) × (k < last) × RowCovers c k) where
    pub gap_none : column_span c ≡ None
    gap_none =
        span_gap (row_valid c.map) c.offsets.now (column_rows c) first (last + 1) low.0 first_is past_is
        (whole_not (row_valid c.map) c.offsets.now first (last + 1) hole.0 hole.1 (omega (arith, hole.2)) hole.3.0 hole.3.1)

-- a null row between two valid ones covers a cell
pub gap_there : {K : Type 0} (c : ListColumn K) (first past : ℕ) → row_valid c.map first ≡ true → past ≤ column_rows c → row_valid c.map (past - 1) ≡ true
    → (k : ℕ) → first ≤ k → k < past → RowCovers c k → ColumnGap c
gap_there c first past low under high k from to covers =
    let after_first : k ≡ first → ⊥ = λ e. both_ways (row_valid c.map k) covers.0 (ap (row_valid c.map) e ∙ low) in
    let before_last : k ≡ past - 1 → ⊥ = λ e. both_ways (row_valid c.map k) covers.0 (ap (row_valid c.map) e ∙ high) in
    record {
      before = first;
      row = k;
      after = past - 1;
      in_order = (omega arith, omega arith, omega arith);
      before_valid = low;
      row_null = covers.0;
      row_covers = covers.1;
      after_valid = high;
    }

-- no row is null
module _ {K : Type 0} (c : ListColumn K) (p : Part K) (from to : ℕ) (all : (k : ℕ) → k < column_rows c → row_valid c.map k ≡ true) (from_is : from ≡ start_of c.offsets.now 0) (to_is : to ≡ start_of c.offsets.now (column_rows c))
    (part : PartOf c from to p) where
  pub given_whole : Given c p
  given_whole =
      ⊎_elim
      (λ e.
      given_from c p from to
      (span_empty (row_valid c.map) c.offsets.now (column_rows c) e ∙ ap (λ (x : ℕ). Some (x, start_of c.offsets.now 0)) (sym from_is)
      ∙ ap (λ (x : ℕ). Some (from, x)) (ap (start_of c.offsets.now) (sym e) ∙ sym to_is))
      part)
      (λ some.
      let end : column_rows c ≡ column_rows c - 1 + 1 = omega arith in
      given_run c 0 (column_rows c - 1) (omega arith, all 0 (omega arith), λ k h. absurd (omega arith)) (omega arith, all (column_rows c - 1) (omega arith), λ k a b. absurd (omega arith))
      (λ k a b. inl (all k (omega arith))) p from to from_is (to_is ∙ ap (start_of c.offsets.now) end) part)
      (cases_eq (column_rows c) 0)

  pub joined_whole : Joined c p
  joined_whole = joined_rows c p 0 (column_rows c) from to (omega arith) (omega arith) (λ k h. absurd (omega arith)) (λ k a b. absurd (omega arith)) (λ k a b. inl (all k b)) from_is to_is part
