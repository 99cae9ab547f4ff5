use Rattle.std.proofs.Common.{false, length, rules}
use Rattle.columns.proofs.Making.{good_when}
use Rattle.columns.proofs.Rules.{offsets_decide}
use Rattle.columns.proofs.column.ListColumn.new.Goals as goal

pub returns-then-not-offsets_keep-clause-good : goal.returns-then-not-offsets_keep-clause-good
returns-then-not-offsets_keep-clause-good g c = good_when c.args.parts false (search rules)

pub invariant_of-result-clause-good : goal.invariant_of-result-clause-good
invariant_of-result-clause-good g c = (offsets_decide c.args.parts.offsets.now c.in_ok-map.map.rows (length c.in_ok-cells.cells.cues.now)).0 (search rules)
