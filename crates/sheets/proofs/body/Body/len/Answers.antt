use Rattle.std.proofs.Common.{sym}
use Rattle.sheets.proofs.Chunks.{length-rows_from}
use Rattle.sheets.proofs.body.Body.len.Goals as goal

pub returns : goal.returns
returns c = let body = c.args.self.now in sym (length-rows_from body.words.now body.cues.now body.level)
