-- The order of cells keeps the laws of an ordered kind, if the order of their cues does.
use Rattle.std.proofs.Common.{◌≡◌, Bool, true, pos, neg_ℤ, ◌≤ℤ◌, Ordering, arith}
use Rattle.kinds.specs.Orders.{sign}
use Rattle.rows.specs.declared.order.SortOptions.{SortOptions}
use Rattle.rows.specs.Orders.{LawfulCells}

module _ {K : Type 0} (order : K → K → Ordering) (same : K → K → Bool) (zero_same : (a b : K) → sign (order a b) ≡ pos 0 → same a b ≡ true)
    (same_zero : (a b : K) → same a b ≡ true → sign (order a b) ≡ pos 0) (swapped : (a b : K) → sign (order b a) ≡ neg_ℤ (sign (order a b)))
    (chain : (a b c : K) → sign (order a b) ≤ℤ pos 0 → sign (order b c) ≤ℤ pos 0 → sign (order a c) ≤ℤ pos 0) (options : SortOptions) where
  pub lawful_cells : LawfulCells order same options
  lawful_cells = record {
    zero_same = λ a b h. grind (arith, zero_same);
    same_zero = λ a b h. grind (arith, same_zero);
    swapped = λ a b. grind (arith, swapped);
    chain = λ a b c h k. grind (arith, swapped, chain);
  }
