-- The order of cells: by their cues' order, rising or falling, with nulls before or behind all cues.
use Rattle.std.specs.Prelude.{◌≡◌, Bool, true, if◌then◌else◌, pos, neg_ℤ, ◌≤ℤ◌, Option, Some, None}
use Rattle.std.specs.declared.cmp.Ordering.TheVariants.{Less, Equal, Greater}
use Rattle.std.specs.declared.cmp.Ordering.{Ordering}
use Rattle.std.specs.Ordering.{ordering_reverse}
use Rattle.kinds.specs.Orders.{sign}
use Rattle.kinds.specs.CellKinds.{same_cell}
use Rattle.rows.specs.declared.order.SortOptions.{SortOptions}

abbrev pub order_cells : {K : Type 0} → (K → K → Ordering) → SortOptions → Option K → Option K → Ordering
order_cells order options None None = Equal
order_cells order options None (Some b) = if options.nulls_first then Less else Greater
order_cells order options (Some a) None = if options.nulls_first then Greater else Less
order_cells order options (Some a) (Some b) = if options.descending then ordering_reverse (order a b) else order a b

-- the laws of an ordered kind, of cells: whatever the options, cells compare as their equality and one another's places ask
pub record LawfulCells {K : Type 0} (order : K → K → Ordering) (same : K → K → Bool) (options : SortOptions) : Type 0 where
  pub zero_same : (a b : Option K) → sign (order_cells order options a b) ≡ pos 0 → same_cell same a b ≡ true
  pub same_zero : (a b : Option K) → same_cell same a b ≡ true → sign (order_cells order options a b) ≡ pos 0
  pub swapped : (a b : Option K) → sign (order_cells order options b a) ≡ neg_ℤ (sign (order_cells order options a b))
  pub chain : (a b c : Option K) → sign (order_cells order options a b) ≤ℤ pos 0 → sign (order_cells order options b c) ≤ℤ pos 0 → sign (order_cells order options a c) ≤ℤ pos 0
