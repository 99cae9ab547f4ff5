use Rattle.std.proofs.Common.{◌≡◌, ◌+◌, ◌<◌, true, false, length, rules}
use Rattle.refusals.proofs.Checks.{ok_within}
use Rattle.bitmap.specs.Maps.{row_valid}
use Rattle.columns.proofs.Reading.{cell_read, cell_when_null}
use Rattle.columns.proofs.cells.Cells.cell.Goals as goal

pub returns-then-branch : goal.returns-then-branch
returns-then-branch g c =
    let cells = c.args.self.now in
    let cues = cells.cues.now in
    let within : c.args.i < length cues = search rules in
    let valid : row_valid cells.map c.args.i ≡ true = search rules in
    let read = cell_read (row_valid cells.map) 0 cues c.args.i c.index-self-i.result within (search rules) in
    ok_within (length cues) c.args.i _ _ within (search rules)

pub returns-else-branch : goal.returns-else-branch
returns-else-branch g c =
    let cells = c.args.self.now in
    let cues = cells.cues.now in
    let within : c.args.i < length cues = search rules in
    let null : row_valid cells.map (0 + c.args.i) ≡ false = search rules in
    let read = cell_when_null (row_valid cells.map) 0 cues c.args.i within null in
    ok_within (length cues) c.args.i _ _ within (search rules)
