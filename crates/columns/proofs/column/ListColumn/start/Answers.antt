use Rattle.std.proofs.Common.{length, rules}
use Rattle.bitmap.specs.Maps.{row_count}
use Rattle.columns.proofs.Rules.{start_is, start_within}
use Rattle.columns.proofs.column.ListColumn.start.Goals as goal

pub overflow_cast-result : goal.overflow_cast-result
overflow_cast-result g c =
    let is = start_is c.args.self.now.offsets.now (row_count c.args.self.now.map) (length c.args.self.now.cells.cues.now) c.args.self.now.good c.args.i c.requires in
    search rules

pub returns : goal.returns
returns g c =
    let is = start_is c.args.self.now.offsets.now (row_count c.args.self.now.map) (length c.args.self.now.cells.cues.now) c.args.self.now.good c.args.i c.requires in
    let within = start_within c.args.self.now.offsets.now (row_count c.args.self.now.map) (length c.args.self.now.cells.cues.now) c.args.self.now.good c.args.i c.requires in
    record { value = search rules; bound = search rules }
