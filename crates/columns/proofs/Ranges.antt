-- Searches over a range of rows, said of the rows.
use Rattle.std.proofs.Common.{◌≡◌, ℕ, ◌+◌, ◌-◌, ◌<◌, ◌≤◌, length, Bool, true, false, ◌⊎◌, List, [], ◌∷◌, get_or, Some, None, Option, Bor, sym, refl, ap, ◌∙◌, subst, inl, inr, arith}
use Rattle.std.proofs.iter.Yields.{nat_range_steps}
use Rattle.std.proofs.iter.runs.Sources.{nat_range_steps_back}
use Rattle.std.proofs.lemmas.Bool.{cases_eq}
use Rattle.std.proofs.lemmas.Iterator.{YieldsList-from_range, cases_from_all, first_from_Range}
use Rattle.std.proofs.lemmas.List.FromFn.{get_or-range_with_len, length-range_with_len}
use Rattle.std.specs.Bool.{MatchBool}
use Rattle.std.specs.Fn.{Called, CalledAt, Mut}
use Rattle.std.specs.Iterator.{ChecksAll, FindsItem, YieldsThen}
use Rattle.std.specs.List.{FoldsTo, AllWithin, HoldsAt, range_with_len}
use Rattle.std.specs.Option.{MatchOption}
use Rattle.std.specs.declared.ops.Range.{Range}

module _ {F : Type 0} {g : Mut F (Bor ℕ × Unit {0}) Bool} (Yes No : ℕ → Type 0) (f : F) (yes : (x : ℕ) (q : F) → CalledAt g f x true q → Yes x) (no : (x : ℕ) (q : F) → CalledAt g f x false q → (q ≡ f) × No x) where
  -- `find` over the rows before one
  pub first_below : (s u : Range ℕ) (n : ℕ) (r : Option ℕ) → FindsItem nat_range_steps g s f r u → s.start ≡ 0 → s.end ≡ n → MatchOption r ((k : ℕ) → k < n → No k) (λ i. (i < n) × Yes i × ((k : ℕ) → k < i → No k))
  first_below s u n r found low high = below r (first_from_Range s u f r Yes No found yes no)
    where
      below : (r : Option ℕ) → MatchOption r ((k : ℕ) → s.start ≤ k → k < s.end → No k) (λ i. (s.start ≤ i) × (i < s.end) × Yes i × ((k : ℕ) → s.start ≤ k → k < i → No k))
          → MatchOption r ((k : ℕ) → k < n → No k) (λ i. (i < n) × Yes i × ((k : ℕ) → k < i → No k))
      below None h = λ k l. h k (omega arith) (omega arith)
      below (Some i) h = (omega (arith, h.1), h.2, λ k l. h.3 k (omega arith) l)

  -- `rfind` over the rows before one
  pub last_below : (s u : Range ℕ) (n : ℕ) (r : Option ℕ) → FindsItem nat_range_steps_back g s f r u → s.start ≡ 0 → s.end ≡ n
      → MatchOption r ((k : ℕ) → k < n → No k) (λ i. (i < n) × Yes i × ((k : ℕ) → i < k → k < n → No k))
  last_below s u n r found low high =
      subst (λ (n : ℕ). MatchOption r ((k : ℕ) → k < n → No k) (λ i. (i < n) × Yes i × ((k : ℕ) → i < k → k < n → No k))) high (go found.0 s r low found.2 found.3 found.4)
    where
      go : (xs : List ℕ) (s : Range ℕ) (r : Option ℕ) → s.start ≡ 0 → YieldsThen nat_range_steps_back s xs r u → FoldsTo (λ p x q. CalledAt g p x false q) f xs found.1
          → MatchOption r (Unit {0}) (λ x. (h : F) × CalledAt g found.1 x true h) → MatchOption r ((k : ℕ) → k < s.end → No k) (λ i. (i < s.end) × Yes i × ((k : ℕ) → i < k → k < s.end → No k))
      go [] s None low h calls hit = λ k l. let a = ap (λ (t : Range ℕ). t.start) h.1 in let b = ap (λ (t : Range ℕ). t.end) h.1 in absurd (omega (arith, h.2.1.0))
      go [] s (Some x) low h calls hit =
          let b = ap (λ (t : Range ℕ). t.end) h.1 in
          (omega (arith, h.2.1.1, h.2.1.2), yes x hit.0 (subst (λ (p : F). CalledAt g p x true hit.0) (sym calls) hit.1), λ k a l. absurd (omega (arith, h.2.1.1, h.2.1.2)))
      go (x ∷ xs) s r low h calls hit =
          more r
          (go xs h.1.0 r (omega (arith, h.1.1.0)) (h.0, h.1.2, h.2) (subst (λ (p : F). FoldsTo (λ p x q. CalledAt g p x false q) p xs found.1) (no x calls.0 calls.1).0 calls.2) hit)
        where
          at : (k : ℕ) → k < s.end → (k < h.1.0.end → No k) → (k ≡ x) ⊎ (k ≡ x → ⊥) → No k
          at k l before (inl e) = subst No (sym e) (no x calls.0 calls.1).1
          at k l before (inr ne) = before (omega (arith, h.1.1.1.1, h.1.1.1.2))

          more : (r : Option ℕ) → MatchOption r ((k : ℕ) → k < h.1.0.end → No k) (λ i. (i < h.1.0.end) × Yes i × ((k : ℕ) → i < k → k < h.1.0.end → No k))
              → MatchOption r ((k : ℕ) → k < s.end → No k) (λ i. (i < s.end) × Yes i × ((k : ℕ) → i < k → k < s.end → No k))
          more None ih = λ k l. at k l (ih k) (cases_eq k x)
          more (Some i) ih = (omega (arith, ih.0, h.1.1.1.2), ih.1, λ k a l. at k l (ih.2 k a) (cases_eq k x))

-- `all` over a range of rows
module _ {F : Type 0} {g : Mut F (ℕ × Unit {0}) Bool} (Yes No : ℕ → Type 0) (f : F) (yes : (x : ℕ) (q : F) → Called g f (x, tt) true q → (q ≡ f) × Yes x) (no : (x : ℕ) (q : F) → Called g f (x, tt) false q → No x) where
  pub all_between : (s u : Range ℕ) (r : Bool) → ChecksAll nat_range_steps g s f r u → MatchBool r ((k : ℕ) → s.start ≤ k → k < s.end → Yes k) ((k : ℕ) × (s.start ≤ k) × (k < s.end) × No k)
  all_between s u r checked = between r (cases_from_all u f r Yes No checked (YieldsList-from_range s.start s.end _ refl refl) yes no)
    where
      rows : List ℕ
      rows = range_with_len s.start (s.end - s.start)

      long : length rows ≡ s.end - s.start
      long = length-range_with_len s.start (s.end - s.start)

      there : (i : ℕ) → i < s.end - s.start → get_or rows i 0 ≡ s.start + i
      there i l = get_or-range_with_len s.start (s.end - s.start) i 0 l

      between : (r : Bool) → MatchBool r (AllWithin Yes rows 0 (length rows)) ((k : ℕ) × (k < length rows) × HoldsAt No rows k) → MatchBool r ((k : ℕ) → s.start ≤ k → k < s.end → Yes k) ((k : ℕ) × (s.start ≤ k) × (k < s.end) × No k)
      between true h = λ k low high. subst Yes (there (k - s.start) (omega arith) ∙ omega arith) (h (k - s.start) 0 (omega arith) (omega (arith, long)))
      between false h = (s.start + h.0, omega arith, omega (arith, long, h.1), subst No (there h.0 (omega (arith, long, h.1))) (h.2 0))
