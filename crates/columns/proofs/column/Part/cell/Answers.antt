use Rattle.std.proofs.Common.{◌≡◌, ◌+◌, ◌<◌, true, false, length, rules}
use Rattle.refusals.proofs.Checks.{ok_within}
use Rattle.bitmap.specs.Bits.{valid_at}
use Rattle.columns.proofs.Reading.{cell_read, cell_when_null}
use Rattle.columns.proofs.column.Part.cell.Goals as goal

pub returns-then-get_bit : goal.returns-then-get_bit
returns-then-get_bit g c =
    let part = c.args.self.now in
    let cues = part.cues.now in
    let within : c.args.i < length cues = search rules in
    let valid : valid_at part.map.now (part.place + c.args.i) ≡ true = search rules in
    let read = cell_read (valid_at part.map.now) part.place cues c.args.i c.in-Some.cue.now within (search rules) in
    ok_within (length cues) c.args.i _ _ within (search rules)

pub returns-else-get_bit : goal.returns-else-get_bit
returns-else-get_bit g c =
    let part = c.args.self.now in
    let cues = part.cues.now in
    let within : c.args.i < length cues = search rules in
    let null : valid_at part.map.now (part.place + c.args.i) ≡ false = search rules in
    let read = cell_when_null (valid_at part.map.now) part.place cues c.args.i within null in
    ok_within (length cues) c.args.i _ _ within (search rules)
