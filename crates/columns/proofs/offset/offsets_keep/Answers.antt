use Rattle.std.proofs.Common.{rules}
use Rattle.columns.proofs.Rules.{sorted_rises}
use Rattle.columns.proofs.offset.offsets_keep.Goals as goal

pub returns-then-offsets-rows-2 : goal.returns-then-offsets-rows-2
returns-then-offsets-rows-2 c =
    let rises = sorted_rises c.args.offsets.now c.args.rows c.is_sorted.result c.if-offsets-rows.false c.is_sorted.ensures.by_index in
    search rules
