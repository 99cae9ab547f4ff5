use Rattle.std.proofs.Common.{◌≡◌, ◌≤◌, [], arith, rules}
use Rattle.sheets.specs.Steps.{rows_left}
use Rattle.sheets.proofs.Chunks.{length-rows_from}
use Rattle.sheets.proofs.Tally.{accepted_le, nulls_le, tally_all}
use Rattle.sheets.proofs.sheet.Sheet.summary.Goals as goal

pub overflow_add-accepted : goal.overflow_add-accepted
overflow_add-accepted c =
    let sheet = c.args.self.now in
    let long = length-rows_from sheet.body.words.now sheet.body.cues.now sheet.body.level in
    omega (arith, accepted_le _ _ _ _ c.loop-row.invariant.tally, sheet.rows_fit)

pub overflow_add-nulls : goal.overflow_add-nulls
overflow_add-nulls c =
    let sheet = c.args.self.now in
    let long = length-rows_from sheet.body.words.now sheet.body.cues.now sheet.body.level in
    let one : c.from-nulls.result ≤ 1 = search rules in
    omega (arith, nulls_le _ _ _ _ c.loop-row.invariant.tally, sheet.rows_fit)

pub overflow_sub-result : goal.overflow_sub-result
overflow_sub-result c = omega (arith, accepted_le _ _ _ _ c.loop-row.invariant.tally, c.len-2.ensures)

pub returns : goal.returns
returns c =
    let sheet = c.args.self.now in
    let none : rows_left c.loop-row.row-iterator ≡ [] = search rules in
    let all = tally_all _ _ _ _ c.loop-row.invariant.tally sheet.modules none in
    let len = c.len.ensures in
    let len' = c.len-2.ensures in
    cc
