use Rattle.std.proofs.Common.{sym, refl, ◌∙◌}
use Rattle.std.specs.List.{between}
use Rattle.bitmap.specs.Bits.{valid_at}
use Rattle.bitmap.specs.Maps.{row_valid}
use Rattle.columns.proofs.Reading.{between_cells, cells_same}
use Rattle.columns.proofs.column.ListColumn.cut.Goals as goal

pub returns : goal.returns
returns g c = record {
  place = refl;
  cues = refl;
  cells =
      cells_same (valid_at c.bytes.result.now) (row_valid c.args.self.now.cells.map) c.bytes.ensures c.args.from (between c.args.from c.args.to c.args.self.now.cells.cues.now)
      ∙ sym (between_cells (row_valid c.args.self.now.cells.map) c.args.from c.args.to c.args.self.now.cells.cues.now);
}
