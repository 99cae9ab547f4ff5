-- In a row that rises, the cells that come before a given one stand in front of the others.
use Rattle.std.proofs.Common.{◌≡◌, ℕ, ◌≤◌, Bool, List, length, get_or, Ordering, Less, true, false, arith, Option}
use Rattle.std.specs.Ordering.{is_lt}
use Rattle.std.specs.List.Sorted.{IsPartitionedBy, IsPartitionPoint}
use Rattle.std.proofs.lemmas.Int.{ints}
use Rattle.rows.specs.declared.counted.Counted.{Counted}
use Rattle.rows.specs.declared.order.SortOptions.{SortOptions}
use Rattle.rows.specs.Orders.{LawfulCells, order_cells}
use Rattle.rows.specs.Sorted.{Place, Rising}

-- under the laws, cells that come before one another do so all along
pub less_trans : {K : Type 0} (order : K → K → Ordering) (same : K → K → Bool) (options : SortOptions) → LawfulCells order same options → (a b c : Option K)
    → order_cells order options a b ≡ Less → order_cells order options b c ≡ Less → order_cells order options a c ≡ Less
less_trans order same options lawful a b c h k = grind (arith, ints, lawful.chain a b c, lawful.chain c a b, lawful.swapped a c, lawful.swapped b c)

module _ {K : Type 0} (order : Option K → Option K → Ordering) (row : List (Counted K)) (cell : Option K) where
  -- what halving asks of a row
  pub parted : ((a b c : Option K) → order a b ≡ Less → order b c ≡ Less → order a c ≡ Less) → Rising order row → IsPartitionedBy (λ e. is_lt (order e.cell cell)) row
  parted trans rises i j d le lt h = grind (arith, trans (get_or row i d).cell (get_or row j d).cell cell, rises i j d)

  -- what halving answers
  pub place_at_parting : (place : ℕ) → place ≤ length row → IsPartitionPoint (λ e. is_lt (order e.cell cell) ≡ true) (λ e. is_lt (order e.cell cell) ≡ false) row place → Place order row cell place
  place_at_parting place within h = record { within = within; before = λ k d l m. grind arith; after = λ k d l m e. grind arith }
