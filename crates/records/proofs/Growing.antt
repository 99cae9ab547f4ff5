-- The records of a column's first lists, one list more at a time.
use Rattle.std.proofs.Common.{◌≡◌, ℕ, zero, suc, ◌+◌, ◌<◌, ◌≤◌, Bool, true, false, cond, ◌⊎◌, List, [], ◌++◌, map, length, get_or, ℤ, Option, Some, None, ap, ◌∙◌, inl, inr, add-one, arith}
use Rattle.std.specs.List.{between}
use Rattle.std.proofs.lemmas.List.{length-append, length-map}
use Rattle.std.proofs.lemmas.Bool.{cases_eq}
use Rattle.columns.specs.Columns.{list_in}
use Rattle.columns.specs.Offsets.{start_of}
use Rattle.records.specs.declared.record.Record.{Record}
use Rattle.records.specs.Batches.{merged_records}
use Rattle.records.proofs.Laws.{Brought, for_group}

module _ {K : Type 0} (valid : ℕ → Bool) (offsets : List ℤ) (cells : List (Option K)) (groups : List ℕ) where
  abbrev Merged : ℕ → List (Record K)
  Merged = merged_records valid offsets cells groups

  merged_more : (i : ℕ) → Merged (i + 1) ≡ Merged i ++ Brought valid offsets cells groups i
  merged_more i = ap Merged (add-one i)

  pub merged_some : (i : ℕ) (part : List (Option K)) → Some part ≡ list_in valid offsets cells i → Merged (i + 1) ≡ Merged i ++ map (for_group (get_or groups i 0)) part
  merged_some i part e = merged_more i ∙ ap (λ t. Merged i ++ t) (go (valid i) (between (start_of offsets i) (start_of offsets (i + 1)) cells) e)
    where
      go : (b : Bool) (here : List (Option K)) → Some part ≡ cond b (Some here) None → cond b (map (for_group (get_or groups i 0)) here) [] ≡ map (for_group (get_or groups i 0)) part
      go true here q = let same : here ≡ part = cc in ap (map (for_group (get_or groups i 0))) same
      go false here q = absurd (let z : ◌≡◌ {A = ℕ} 0 1 = cc in omega arith)

  -- how many more they are
  pub counted_some : (i : ℕ) (part : List (Option K)) → Some part ≡ list_in valid offsets cells i → length (Merged (i + 1)) ≡ length (Merged i) + length part
  counted_some i part e =
      ap length (merged_some i part e) ∙ length-append (Merged i) (map (for_group (get_or groups i 0)) part)
      ∙ ap (λ (k : ℕ). length (Merged i) + k) (length-map part (for_group (get_or groups i 0)))

  pub merged_le : (i n : ℕ) → i ≤ n → length (Merged i) ≤ length (Merged n)
  merged_le i zero h = let e : i ≡ 0 = omega arith in omega (arith, ap (λ (k : ℕ). length (Merged k)) e)
  merged_le i (suc n) h = go (cases_eq i (suc n)) (merged_le i n)
    where
      go : (i ≡ suc n) ⊎ (i ≡ suc n → ⊥) → (i ≤ n → length (Merged i) ≤ length (Merged n)) → length (Merged i) ≤ length (Merged (suc n))
      go (inl e) ih = omega (arith, ap (λ (k : ℕ). length (Merged k)) e)
      go (inr ne) ih = let le = ih (omega arith) in omega (arith, length-append (Merged n) (Brought valid offsets cells groups n))

  -- a list and those before it are within the whole
  pub merged_room : (i rows : ℕ) (part : List (Option K)) → i < rows → Some part ≡ list_in valid offsets cells i → length (Merged i) + length part ≤ length (Merged rows)
  merged_room i rows part h e =
      let le = merged_le (i + 1) rows (omega arith) in
      let more = counted_some i part e in
      omega arith
