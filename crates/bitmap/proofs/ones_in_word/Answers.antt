use Rattle.std.proofs.Common.{ap, ◌∙◌}
use lib.Count.{ones}
use Rattle.bitmap.proofs.Counting.{ones_of_word}
use Rattle.bitmap.proofs.ones_in_word.Goals as goal

pub returns-clause-value : goal.returns-clause-value
returns-clause-value c = ap ones c.from_le_bytes.ensures ∙ ones_of_word c.args.word.now c.told-word c.fits-word
