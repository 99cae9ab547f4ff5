use Rattle.std.proofs.Common.{arith}
use Rattle.emit.proofs.Marking.{marked_or}
use Rattle.emit.proofs.cells.mark.Goals as goal

pub returns-then-valid : goal.returns-then-valid
returns-then-valid c = rw c.if-valid.true (marked_or c.args.map.now c.args.i c.requires (omega arith))
