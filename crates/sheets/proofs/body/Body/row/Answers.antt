use Rattle.std.proofs.Common.{length, ◌<◌, arith}
use Rattle.std.proofs.lemmas.Grind.{common_steps}
use Rattle.std.proofs.lemmas.Option.{gets}
use Rattle.sheets.proofs.Chunks.{length-rows_from, get_or-rows_from}
use Rattle.sheets.proofs.body.Body.row.Goals as goal

pub returns-then-i-self-clause-row : goal.returns-then-i-self-clause-row
returns-then-i-self-clause-row c =
    let body = c.args.self.now in
    let long = length-rows_from body.words.now body.cues.now body.level in
    grind (arith, common_steps, gets)

pub returns-clause-row : goal.returns-clause-row
returns-clause-row c =
    let body = c.args.self.now in
    let long = length-rows_from body.words.now body.cues.now body.level in
    let within : c.args.i < length body.words.now = omega arith in
    let at = get_or-rows_from body.words.now body.cues.now c.args.i within (omega arith) c.read.result in
    grind (arith, common_steps, gets)
