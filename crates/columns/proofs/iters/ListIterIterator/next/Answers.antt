use Rattle.std.proofs.Common.{None, arith}
use Rattle.std.proofs.lemmas.List.FromFn.{get_or-map-range_with_len, length-map-range_with_len}
use Rattle.std.specs.Option.{option_map}
use Rattle.columns.specs.Columns.{column_rows, list_at, part_cells}
use Rattle.columns.specs.Steps.{lists_in, lists_left}
use Rattle.columns.proofs.Steps.{ends, reads}
use Rattle.columns.proofs.iters.ListIterIterator.next.Goals as goal

pub returns : goal.returns
returns g c =
    let column = c.args.self.now.column.now in
    let steps =
    reads (option_map part_cells) (lists_in column) None c.args.self.now.rows c.next.new.self (column_rows column) c.in_ok-next.field-0 (list_at column c.in_ok-next.field-0) c.list.result c.ok.result c.in_ok-next.ensures.steps
    (length-map-range_with_len (list_at column) 0 (column_rows column)) (λ l. get_or-map-range_with_len (list_at column) 0 (column_rows column) c.in_ok-next.field-0 c.in_ok-next.field-0 None l (omega arith)) c.list.ensures.answer c.ok.ensures.value in
    record { steps = steps; goes = ends (option_map part_cells) lists_left _ _ _ steps }
