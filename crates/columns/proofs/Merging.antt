-- The part that can be merged as it stands is the valid lists' cells, joined in order.
use Rattle.std.proofs.Common.{◌≡◌, ℕ, zero, suc, ◌+◌, ◌-◌, ◌<◌, ◌≤◌, Bool, true, false, cond, ltb, ◌⊎◌, List, [], ◌++◌, take, drop, ℤ, sym, refl, ap, ◌∙◌, inl, inr, ⊎_elim, add-one, arith, Option}
use Rattle.std.specs.List.{between}
use Rattle.std.proofs.Math.Seq.{take-add}
use Rattle.std.proofs.lemmas.List.Edits.{between_none}
use Rattle.std.proofs.lemmas.List.{append-nil, drop-drop}
use Rattle.std.proofs.lemmas.Bool.{both_ways, cases_Bool, cases_eq, cases_lt, lt-ltb, le-ltb, and_from, and_left, and_right, or_left, or_right, or_from, not_from_true, not_from_false, cond-true, cond-false}
use Rattle.std.proofs.lemmas.Bool.Decides.{nat_tests}
use Rattle.columns.specs.Merging.{Gap, first_valid, past_valid, valid_cells, whole, all_whole_from}
use Rattle.columns.specs.Offsets.{GoodOffsets, start_of}
use Rattle.columns.proofs.Rules.{start_rises}

module _ (valid : ℕ → Bool) where
  pub first_none : (n : ℕ) → ((k : ℕ) → k < n → valid k ≡ false) → first_valid valid n ≡ n
  first_none zero h = refl
  first_none (suc n) h =
      let a = first_none n (λ k l. h k (omega arith)) in
      let b = h n (omega arith) in
      grind (arith, nat_tests)

  pub first_found : (i n : ℕ) → i < n → ((k : ℕ) → k < i → valid k ≡ false) → valid i ≡ true → first_valid valid n ≡ i
  first_found i zero l h e = absurd (omega arith)
  first_found i (suc n) l h e = go (cases_eq i n) (λ s. first_found i n s h e)
    where
      go : (i ≡ n) ⊎ (i ≡ n → ⊥) → (i < n → first_valid valid n ≡ i) → first_valid valid (suc n) ≡ i
      go (inl q) ih =
          let a = first_none n (λ k s. h k (omega arith)) in
          let b : valid n ≡ true = ap valid (sym q) ∙ e in
          grind (arith, nat_tests)
      go (inr ne) ih =
          let a = ih (omega arith) in
          grind (arith, nat_tests)

  pub past_found : (i n : ℕ) → i < n → ((k : ℕ) → i < k → k < n → valid k ≡ false) → valid i ≡ true → past_valid valid n ≡ i + 1
  past_found i zero l h e = absurd (omega arith)
  past_found i (suc n) l h e = go (cases_eq i n) (λ s. past_found i n s (λ k a b. h k a (omega arith)) e)
    where
      go : (i ≡ n) ⊎ (i ≡ n → ⊥) → (i < n → past_valid valid n ≡ i + 1) → past_valid valid (suc n) ≡ i + 1
      go (inl q) ih =
          let b : valid n ≡ true = ap valid (sym q) ∙ e in
          grind (arith, nat_tests)
      go (inr ne) ih =
          let a = ih (omega arith) in
          let b = h n (omega arith) (omega arith) in
          grind (arith, nat_tests)

-- row k is valid or covers no cell
abbrev pub Whole : (ℕ → Bool) → List ℤ → ℕ → Type 0
Whole valid offsets k = (valid k ≡ true) ⊎ (start_of offsets (k + 1) ≤ start_of offsets k)

module _ (valid : ℕ → Bool) (offsets : List ℤ) where
  whole_test : (k : ℕ) → Whole valid offsets k → whole valid offsets k ≡ true
  whole_test k (inl e) = or_left (valid k) _ e
  whole_test k (inr h) = or_right (valid k) _ (not_from_false _ (le-ltb (start_of offsets k) (start_of offsets (k + 1)) h))

  pub whole_from : (from n : ℕ) → ((k : ℕ) → from ≤ k → k < n → Whole valid offsets k) → all_whole_from valid offsets from n ≡ true
  whole_from from zero h = refl
  whole_from from (suc n) h =
      and_from _ _ (whole_from from n (λ k s t. h k s (omega arith)))
      (⊎_elim (λ l. or_left (ltb n from) _ (lt-ltb n from l)) (λ l. or_right (ltb n from) _ (whole_test n (h n l (omega arith)))) (cases_lt n from))

  pub whole_not : (from n k : ℕ) → from ≤ k → k < n → valid k ≡ false → start_of offsets k < start_of offsets (k + 1) → all_whole_from valid offsets from n ≡ false
  whole_not from zero k h l e c = absurd (omega arith)
  whole_not from (suc n) k h l e c = go (cases_eq k n) (λ s. whole_not from n k h s e c)
    where
      here : whole valid offsets k ≡ false
      here = or_from (valid k) _ e (not_from_true _ (lt-ltb (start_of offsets k) (start_of offsets (k + 1)) c))

      go : (k ≡ n) ⊎ (k ≡ n → ⊥) → (k < n → all_whole_from valid offsets from n ≡ false) → all_whole_from valid offsets from (suc n) ≡ false
      go (inl q) ih = and_right (all_whole_from valid offsets from n) _ (or_from (ltb n from) _ (le-ltb n from (omega arith)) (ap (whole valid offsets) (sym q) ∙ here))
      go (inr ne) ih = and_left (all_whole_from valid offsets from n) _ (ih (omega arith))

  -- no null row between two valid ones covers a cell, if all rows outside a stretch are null and none inside it does
  pub gap_not : (rows from to : ℕ) → ((k : ℕ) → k < from → valid k ≡ false) → ((k : ℕ) → to ≤ k → k < rows → valid k ≡ false)
      → ((k : ℕ) → from ≤ k → k < to → Whole valid offsets k) → Gap valid offsets rows → ⊥
  gap_not rows from to before after inside gap =
      let low : from ≤ gap.before = at_least (cases_lt gap.before from) in
      let high : gap.after < to = below (cases_lt gap.after to) in
      ⊎_elim
      (λ e. both_ways (valid gap.row) gap.row_null e)
      (λ h. let c = gap.row_covers in omega arith)
      (inside gap.row (let o = gap.in_order in omega arith) (let o = gap.in_order in omega arith))
    where
      at_least : (gap.before < from) ⊎ (from ≤ gap.before) → from ≤ gap.before
      at_least (inl l) = absurd (both_ways (valid gap.before) (before gap.before l) gap.before_valid)
      at_least (inr l) = l

      below : (gap.after < to) ⊎ (to ≤ gap.after) → gap.after < to
      below (inl l) = l
      below (inr l) = absurd (both_ways (valid gap.after) (after gap.after l gap.in_order.2) gap.after_valid)

between_join : {X : Type 0} (a b c : ℕ) (xs : List X) → a ≤ b → b ≤ c → between a b xs ++ between b c xs ≡ between a c xs
between_join {X} a b c xs h l =
    let e : a + (b - a) ≡ b = omega arith in
    let s : (b - a) + (c - b) ≡ c - a = omega arith in
    ap (λ (ys : List X). between a b xs ++ take (c - b) ys) (sym (drop-drop (b - a) a xs ∙ ap (λ (k : ℕ). drop k xs) e))
    ∙ sym (take-add (b - a) (c - b) (drop a xs)) ∙ ap (λ (k : ℕ). take k (drop a xs)) s

module _ {K : Type 0} (valid : ℕ → Bool) (offsets : List ℤ) (cells : List (Option K)) where
  pub valid_none : (n : ℕ) → ((k : ℕ) → k < n → valid k ≡ false) → valid_cells valid offsets cells n ≡ []
  valid_none zero h = refl
  valid_none (suc n) h =
      ap (λ t. t ++ cond (valid n) (between (start_of offsets n) (start_of offsets (n + 1)) cells) []) (valid_none n (λ k l. h k (omega arith)))
      ∙ cond-false (valid n) _ _ (h n (omega arith))

  pub valid_rest : (m n : ℕ) → m ≤ n → ((k : ℕ) → m ≤ k → k < n → valid k ≡ false) → valid_cells valid offsets cells n ≡ valid_cells valid offsets cells m
  valid_rest m zero l h = let e : 0 ≡ m = omega arith in ap (valid_cells valid offsets cells) e
  valid_rest m (suc n) l h = go (cases_eq m (suc n)) (λ s. valid_rest m n s (λ k a b. h k a (omega arith)))
    where
      go : (m ≡ suc n) ⊎ (m ≡ suc n → ⊥) → (m ≤ n → valid_cells valid offsets cells n ≡ valid_cells valid offsets cells m) → valid_cells valid offsets cells (suc n) ≡ valid_cells valid offsets cells m
      go (inl e) ih = ap (valid_cells valid offsets cells) (sym e)
      go (inr ne) ih =
          ap (λ t. valid_cells valid offsets cells n ++ t) (cond-false (valid n) _ _ (h n (omega arith) (omega arith))) ∙ append-nil _ ∙ ih (omega arith)

  module _ (rows count : ℕ) (good : GoodOffsets offsets rows count) where
    pub valid_run : (m n : ℕ) → m ≤ n → n ≤ rows → valid_cells valid offsets cells m ≡ [] → ((k : ℕ) → m ≤ k → k < n → Whole valid offsets k)
        → valid_cells valid offsets cells n ≡ between (start_of offsets m) (start_of offsets n) cells
    valid_run m zero l r none h =
        let e : m ≡ 0 = omega arith in
        sym (between_none cells (start_of offsets 0)) ∙ ap (λ (k : ℕ). between (start_of offsets k) (start_of offsets 0) cells) (sym e)
    valid_run m (suc n) l r none h = go (cases_eq m (suc n)) (λ s. valid_run m n s (omega arith) none (λ k a b. h k a (omega arith))) (cases_Bool (valid n))
      where
        go : (m ≡ suc n) ⊎ (m ≡ suc n → ⊥) → (m ≤ n → valid_cells valid offsets cells n ≡ between (start_of offsets m) (start_of offsets n) cells) → (valid n ≡ true) ⊎ (valid n ≡ false)
            → valid_cells valid offsets cells (suc n) ≡ between (start_of offsets m) (start_of offsets (suc n)) cells
        go (inl e) ih v =
            ap (valid_cells valid offsets cells) (sym e) ∙ none ∙ sym (between_none cells (start_of offsets m)) ∙ ap (λ (k : ℕ). between (start_of offsets m) (start_of offsets k) cells) e
        go (inr ne) ih (inl v) =
            ap (λ t. valid_cells valid offsets cells n ++ t) (cond-true (valid n) _ _ v)
            ∙ ap (λ t. t ++ between (start_of offsets n) (start_of offsets (n + 1)) cells) (ih (omega arith))
            ∙ between_join (start_of offsets m) (start_of offsets n) (start_of offsets (n + 1)) cells (start_rises offsets rows count good m n (omega arith) (omega arith)) (start_rises offsets rows count good n (n + 1) (omega arith) (omega arith))
            ∙ ap (λ (k : ℕ). between (start_of offsets m) (start_of offsets k) cells) (add-one n)
        go (inr ne) ih (inr v) =
            let still : start_of offsets n ≡ start_of offsets (suc n) =
            ⊎_elim (λ e. absurd (both_ways (valid n) v e))
            (λ s. let up = start_rises offsets rows count good n (n + 1) (omega arith) (omega arith) in let q = ap (start_of offsets) (add-one n) in omega arith)
            (h n (omega arith) (omega arith)) in
            ap (λ t. valid_cells valid offsets cells n ++ t) (cond-false (valid n) _ _ v) ∙ append-nil _ ∙ ih (omega arith)
            ∙ ap (λ (k : ℕ). between (start_of offsets m) k cells) still

    -- all rows outside a stretch are null, and no null row inside it covers a cell
    pub merged_run : (from to : ℕ) → from ≤ to → to ≤ rows → ((k : ℕ) → k < from → valid k ≡ false) → ((k : ℕ) → to ≤ k → k < rows → valid k ≡ false)
        → ((k : ℕ) → from ≤ k → k < to → Whole valid offsets k) → valid_cells valid offsets cells rows ≡ between (start_of offsets from) (start_of offsets to) cells
    merged_run from to l r before after inside =
        valid_rest to rows r after ∙ valid_run from to l r (valid_none from before) inside
