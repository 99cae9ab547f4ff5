use Rattle.std.proofs.Common.{sym}
use Rattle.bitmap.specs.Bits.{valid_at}
use Rattle.columns.proofs.Reading.{length_cells}
use Rattle.columns.proofs.column.Part.len.Goals as goal

pub returns : goal.returns
returns g c = sym (length_cells (valid_at c.args.self.now.map.now) c.args.self.now.place c.args.self.now.cues.now)
