-- An iterator that reads one row after another: what its `next` gives, and that it ends.
use Rattle.std.proofs.Common.{◌≡◌, ℕ, suc, ◌+◌, ◌-◌, ◌<◌, ◌≤◌, leb, ◌⊎◌, List, [], ◌∷◌, length, get_or, take, drop, Ok, Err, Some, None, Option, Result, sym, refl, ap, ◌∙◌, subst, inl, inr, arith}
use Rattle.std.proofs.Math.Seq.{drop-cons, take-nil}
use Rattle.std.proofs.lemmas.List.{drop_all}
use Rattle.std.proofs.lemmas.Bool.{cases_lt, cond-false, cond-true, le-leb, lt-leb}
use Rattle.std.specs.Iterator.{MakesProgress, YieldsFirstBy, item_count}
use Rattle.std.specs.List.{between}
use Rattle.std.specs.Option.{MatchOption}
use Rattle.std.specs.Result.{result_map_both, result_ok}
use Rattle.std.specs.declared.ops.Range.{Range}
use Rattle.refusals.specs.declared.Refusal.{Refusal}
use Rattle.refusals.specs.declared.Refusal.TheVariants.{IndexOutOfRange}
use Rattle.refusals.specs.Checks.{unless}

-- fewer are left behind an item, so it ends
pub ends : {S A X : Type 0} (view : A → X) (rest : S → List X) (s t : S) (r : Option A) → YieldsFirstBy view rest s r t → MakesProgress (λ _. Unit {0}) (item_count rest) s r t
ends view rest s t None h = record { on = λ _. tt; keeps = tt; rests = λ _. tt }
ends view rest s t (Some x) h = record { on = λ _. (tt, tt, let e = ap length h in omega arith); keeps = tt; rests = λ _. tt }

pub read_same : {X : Type 0} (r : Result X Refusal) → result_map_both (λ (x : X). x) (λ (e : Refusal). e) r ≡ r
read_same (Ok x) = refl
read_same (Err e) = refl

module _ {X : Type 0} (xs : List X) where
  between_first : (i j k m : ℕ) (d x : X) → i < j → i < length xs → get_or xs i d ≡ x → k ≡ i + 1 → m ≡ j → between i j xs ≡ x ∷ between k m xs
  between_first i j k m d x low within is on end =
      let e : j - i ≡ suc (m - k) = omega arith in
      let f : suc i ≡ k = omega arith in
      ap (λ (n : ℕ). take n (drop i xs)) e ∙ ap (take (suc (m - k))) (drop-cons xs i d within) ∙ ap (λ (y : X). y ∷ take (m - k) (drop (suc i) xs)) is
      ∙ ap (λ (n : ℕ). x ∷ take (m - k) (drop n xs)) f

  between_past : (i j : ℕ) → length xs ≤ i → between i j xs ≡ []
  between_past i j past = ap (take (j - i)) (drop_all i xs past) ∙ take-nil (j - i)

module _ {A X : Type 0} (view : A → X) (xs : List X) (d : X) where
  -- a range of rows gave its first row, and this is what was read of it
  pub reads : (rows next : Range ℕ) (n i : ℕ) (y : X) (r : Result A Refusal) (o : Option A)
      → (next.end ≡ rows.end) × ((0 < rows.end - rows.start) × (i ≡ rows.start) × (next.start ≡ rows.start + 1)) → length xs ≡ n → (i < n → get_or xs i d ≡ y)
      → result_map_both view (λ (e : Refusal). e) r ≡ unless ((leb n i, IndexOutOfRange) ∷ []) y → o ≡ result_ok r
      → MatchOption o ((between rows.start rows.end xs ≡ []) × (between next.start next.end xs ≡ [])) (λ x. between rows.start rows.end xs ≡ view x ∷ between next.start next.end xs)
  reads rows next n i y r o step long here read given =
      subst Given (sym given) (go r (cases_lt i n) read)
    where
      good : X → Result X Refusal
      good x = Ok x

      bad : Refusal → Result X Refusal
      bad e = Err e

      Given : Option A → Type 0
      Given o = MatchOption o ((between rows.start rows.end xs ≡ []) × (between next.start next.end xs ≡ [])) (λ x. between rows.start rows.end xs ≡ view x ∷ between next.start next.end xs)

      go : (r : Result A Refusal) → (i < n) ⊎ (n ≤ i) → result_map_both view (λ (e : Refusal). e) r ≡ unless ((leb n i, IndexOutOfRange) ∷ []) y → Given (result_ok r)
      go (Ok x) (inl l) e =
          let passes = cond-false (leb n i) (bad IndexOutOfRange) (good y) (lt-leb n i l) in
          let is : y ≡ view x = cc in
          between_first xs rows.start rows.end next.start next.end d (view x) (omega arith) (omega arith) (ap (λ (k : ℕ). get_or xs k d) (sym step.1.1) ∙ here l ∙ is) step.1.2 step.0
      go (Ok x) (inr l) e = let fails = cond-true (leb n i) (bad IndexOutOfRange) (good y) (le-leb n i l) in cc
      go (Err q) (inl l) e = let passes = cond-false (leb n i) (bad IndexOutOfRange) (good y) (lt-leb n i l) in cc
      go (Err q) (inr l) e = (between_past xs rows.start rows.end (omega arith), between_past xs next.start next.end (omega arith))
