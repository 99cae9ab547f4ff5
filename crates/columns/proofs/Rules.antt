-- The test for the rules of offsets, and what the rules say of where rows start.
use Rattle.std.proofs.Common.{◌≡◌, ℕ, zero, suc, ◌+◌, ◌<◌, ◌≤◌, Bool, true, false, T, eqb, ◌⊎◌, List, length, ℤ, pos, negsuc, ◌≤ℤ◌, ◌<ℤ◌, Decides, Some, sym, refl, ap, inl, inr, ⊎_elim, add-one, arith}
use lib.Signed.{le_z}
use Rattle.std.proofs.lemmas.Int.{ints}
use Rattle.std.proofs.lemmas.Bool.{both_ways, cases_Bool, cases_eq, and_from, and_parts, eqb-true, eq-eqb, false≢true}
use Rattle.std.proofs.lemmas.Bool.Decides.{Decides-below_and}
use Rattle.std.specs.Bool.{passes}
use Rattle.std.specs.Cmp.{int_ranks}
use Rattle.std.specs.List.{IsEachAdjacentAnswer}
use Rattle.std.specs.Ordering.{MatchOrdering, int_cmp, is_le, partial_le}
use Rattle.std.specs.declared.cmp.Ordering.{Ordering}
use Rattle.std.specs.declared.cmp.Ordering.TheVariants.{Less, Equal, Greater}
use Rattle.columns.specs.Offsets.{GoodOffsets, natural, offset_at, offsets_keep, rises, start_of}

test_true : (b : Bool) → T b → b ≡ true
test_true true h = refl
test_true false h = absurd h

le_z_decides : (a b : ℤ) → Decides (le_z a b) (a ≤ℤ b)
le_z_decides a b = (λ e. record { le = passes (le_z a b) e }, λ h. test_true (le_z a b) h.le)

cmp_decides : (a b : ℤ) → Decides (partial_le (λ x y. Some (int_cmp x y)) a b) (a ≤ℤ b)
cmp_decides a b = ranked (int_cmp a b) (int_ranks a b)
  where
    ranked : (o : Ordering) → MatchOrdering o (a <ℤ b) (a ≡ b) (b <ℤ a) → Decides (is_le o) (a ≤ℤ b)
    ranked Less h = (λ _. omega (arith, ints), λ _. refl)
    ranked Equal h = (λ _. omega (arith, ints), λ _. refl)
    ranked Greater h = (λ e. absurd (false≢true e), λ l. absurd (omega (arith, ints)))

module _ (offsets : List ℤ) where
  rises_decides : (n : ℕ) → Decides (rises offsets n) ((i : ℕ) → i < n → offset_at offsets i ≤ℤ offset_at offsets (i + 1))
  rises_decides n =
      Decides-below_and (λ i. le_z (offset_at offsets i) (offset_at offsets (i + 1))) (λ i. offset_at offsets i ≤ℤ offset_at offsets (i + 1)) (rises offsets)
      (λ i. le_z_decides (offset_at offsets i) (offset_at offsets (i + 1))) refl (λ _. refl) n

  -- what `is_sorted` answers
  pub sorted_rises : (rows : ℕ) (b : Bool) → length offsets ≡ rows + 1 → IsEachAdjacentAnswer (λ x y b. partial_le (λ x y. Some (int_cmp x y)) x y ≡ b) offsets b → b ≡ rises offsets rows
  sorted_rises rows true long h = sym ((rises_decides rows).1 (λ i l. (cmp_decides (offset_at offsets i) (offset_at offsets (i + 1))).0 (h i (pos 0) (omega arith)).1))
  sorted_rises rows false long h =
      ⊎_elim
      (λ e. absurd (both_ways _ (h.2 (pos 0)).1 ((cmp_decides (offset_at offsets h.0) (offset_at offsets (h.0 + 1))).1 ((rises_decides rows).0 e h.0 (omega (arith, h.1))))))
      sym
      (cases_Bool (rises offsets rows))

  pub offsets_decide : (rows cells : ℕ) → Decides (offsets_keep offsets rows cells) (GoodOffsets offsets rows cells)
  offsets_decide rows cells = (
    λ e.
        let one = and_parts (eqb (length offsets) (rows + 1)) _ e in
        let two = and_parts (le_z (pos 0) (offset_at offsets 0)) _ one.1 in
        let three = and_parts (rises offsets rows) _ two.1 in
        record {
          long = eqb-true (length offsets) (rows + 1) one.0;
          first = (le_z_decides (pos 0) (offset_at offsets 0)).0 two.0;
          rising = (rises_decides rows).0 three.0;
          last = (le_z_decides (offset_at offsets rows) (pos cells)).0 three.1;
        },
    λ good.
        and_from (eqb (length offsets) (rows + 1)) _ (eq-eqb (length offsets) (rows + 1) good.long)
        (and_from (le_z (pos 0) (offset_at offsets 0)) _ ((le_z_decides (pos 0) (offset_at offsets 0)).1 good.first)
        (and_from (rises offsets rows) _ ((rises_decides rows).1 good.rising) ((le_z_decides (offset_at offsets rows) (pos cells)).1 good.last))),
  )

nonneg_is : (z : ℤ) → pos 0 ≤ℤ z → z ≡ pos (natural z)
nonneg_is (pos n) h = refl
nonneg_is (negsuc n) h = absurd (omega (arith, ints))

module _ (offsets : List ℤ) (rows cells : ℕ) (good : GoodOffsets offsets rows cells) where
  later : (i j : ℕ) → i ≤ j → j ≤ rows → offset_at offsets i ≤ℤ offset_at offsets j
  later zero zero h l = omega (arith, ints)
  later (suc i) zero h l = absurd (omega arith)
  later i (suc j) h l = go (cases_eq i (suc j)) (λ s. later i j s (omega arith))
    where
      go : (i ≡ suc j) ⊎ (i ≡ suc j → ⊥) → (i ≤ j → offset_at offsets i ≤ℤ offset_at offsets j) → offset_at offsets i ≤ℤ offset_at offsets (suc j)
      go (inl e) ih = let q = ap (offset_at offsets) e in omega (arith, ints)
      go (inr ne) ih =
          let a = ih (omega arith) in
          let b = good.rising j (omega arith) in
          let q = ap (offset_at offsets) (add-one j) in
          omega (arith, ints)

  pub start_is : (i : ℕ) → i ≤ rows → offset_at offsets i ≡ pos (start_of offsets i)
  start_is i h = nonneg_is (offset_at offsets i) (let a = later 0 i (omega arith) h in let b = good.first in omega (arith, ints))

  pub start_rises : (i j : ℕ) → i ≤ j → j ≤ rows → start_of offsets i ≤ start_of offsets j
  start_rises i j h l =
      let a = later i j h l in
      let b = start_is i (omega arith) in
      let c = start_is j l in
      omega (arith, ints)

  pub start_within : (i : ℕ) → i ≤ rows → start_of offsets i ≤ cells
  start_within i h =
      let a = start_rises i rows h (omega arith) in
      let b = good.last in
      let c = start_is rows (omega arith) in
      omega (arith, ints)
