use Rattle.std.proofs.Common.{◌≡◌}
use Rattle.bitmap.specs.Maps.{both_valid}
use Rattle.bitmap.proofs.Filled.{filled}
use Rattle.bitmap.proofs.validity.Validity.unite.Given as goal

abbrev pub invariant-loop-k : goal.invariant-loop-k
invariant-loop-k l = l.byte-items ≡ filled (both_valid l.self l.other) l.self.rows l.k l.initial.byte-items
