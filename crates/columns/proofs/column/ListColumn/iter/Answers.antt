use Rattle.std.proofs.Common.{◌∙◌, arith}
use Rattle.std.proofs.lemmas.List.FromFn.{length-map-range_with_len}
use Rattle.std.proofs.lemmas.Slice.{between_from_start}
use Rattle.std.proofs.lemmas.List.{take_all}
use Rattle.columns.specs.Columns.{column_rows, list_at}
use Rattle.columns.specs.Steps.{lists_in}
use Rattle.columns.proofs.column.ListColumn.iter.Goals as goal

pub returns : goal.returns
returns g c =
    let long = length-map-range_with_len (list_at c.args.self.now) 0 (column_rows c.args.self.now) in
    let rows = c.rows.ensures in
    between_from_start (lists_in c.args.self.now) c.rows.result ∙ take_all c.rows.result (lists_in c.args.self.now) (omega arith)
