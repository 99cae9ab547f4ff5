use Rattle.std.proofs.Common.{ℕ, sym, subst}
use Rattle.bitmap.specs.Bits.{bytes_for}
use Rattle.bitmap.specs.Maps.{MapWritten}
use Rattle.records.specs.Lists.{cell_valid}
use Rattle.records.specs.Records.{list_of}
use Rattle.emit.proofs.Marking.{cleared_drop, written_over}
use Rattle.emit.proofs.one_list.copy_list.Goals as goal

pub returns-clause-marks : goal.returns-clause-marks
returns-clause-marks g c =
    written_over (cell_valid (list_of c.args.j c.args.records.now)) c.count_list-size.result c.clear.new.self.map.now c.args.cells.now.map.now c.copy_cells.new.cells.map.now
    (subst (λ (k : ℕ). MapWritten (cell_valid (list_of c.args.j c.args.records.now)) k c.clear.new.self.map.now c.copy_cells.new.cells.map.now) (sym c.count_list-size.ensures) c.copy_cells.ensures.marks)
    (cleared_drop (bytes_for c.count_list-size.result) c.args.cells.now.map.now c.clear.new.self.map.now c.clear.ensures.map)
