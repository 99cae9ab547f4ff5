use Rattle.std.proofs.Common.{◌%◌, map, sym, ◌∙◌}
use Rattle.std.specs.Int.{w32, from_le_bytes}
use Rattle.sheets.proofs.Good.{all_below}
use Rattle.sheets.proofs.sheet.Sheet.from_body.Goals as goal

pub invariant_of-result-clause-words_known : goal.invariant_of-result-clause-words_known
invariant_of-result-clause-words_known c =
    all_below (λ w. w) 262144 (map (from_le_bytes w32) c.in_ok-body.body.words.now) (sym c.words_known.ensures ∙ c.if-not-words_known.false)

pub invariant_of-result-clause-modules_known : goal.invariant_of-result-clause-modules_known
invariant_of-result-clause-modules_known c =
    all_below (λ w. w % 65536) c.args.modules (map (from_le_bytes w32) c.in_ok-body.body.words.now) (sym c.modules_known.ensures ∙ c.if-not-modules_known.false)
