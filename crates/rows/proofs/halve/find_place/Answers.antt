use Rattle.std.proofs.Common.{rules}
use Rattle.std.specs.Ordering.{is_lt}
use Rattle.std.proofs.lemmas.List.Sorted.{IsPartitionPoint-from_clause}
use Rattle.rows.specs.Orders.{order_cells}
use Rattle.rows.proofs.Halving.{less_trans, parted, place_at_parting}
use Rattle.rows.proofs.Laws.{lawful_cells}
use Rattle.rows.proofs.halve.find_place.Goals as goal

pub returns-clause-place : goal.returns-clause-place
returns-clause-place g c rises =
    let order = g.K.Ordered.order in
    let lawful = lawful_cells order g.K.Keyed.same g.met.K.Ordered.zero_same g.met.K.Ordered.same_zero g.met.K.Ordered.swapped g.met.K.Ordered.chain c.args.options in
    place_at_parting (order_cells order c.args.options) _ _ _ c.partition_point.ensures.bound
    (IsPartitionPoint-from_clause (λ e. is_lt (order_cells order c.args.options e.cell c.args.cell.now)) _ _ c.partition_point.ensures.partitioned
    (parted (order_cells order c.args.options) c.args.row.now c.args.cell.now (less_trans order g.K.Keyed.same c.args.options lawful) rises) (λ a r q k. search rules))
