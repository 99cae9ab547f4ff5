use Rattle.std.proofs.Common.{◌≡◌, ◌/◌, length, ap₂, ◌∙◌, arith}
use Rattle.std.specs.Simd.{first_chunks}
use Rattle.sheets.proofs.Chunks.{words_in, cues_in, words_are, rows_are}
use Rattle.sheets.proofs.body.Body.new.Goals as goal

words : (c : goal.After-result-1) → c.as_chunks.result.0.now ≡ words_in c.args.rows c.args.bytes.now
words c =
    let many : length c.split_at.result.0.now / 4 ≡ c.args.rows = omega arith in
    c.as_chunks.ensures.front ∙ ap₂ (first_chunks 4) many c.split_at.ensures.front

cues : (c : goal.After-result-1) → c.as_chunks-2.result.0.now ≡ cues_in c.args.rows c.args.bytes.now
cues c =
    let many : length c.split_at.result.1.now / 8 ≡ c.args.rows = omega arith in
    c.as_chunks-2.ensures.front ∙ ap₂ (first_chunks 8) many c.split_at.ensures.back

pub returns-clause-words : goal.returns-clause-words
returns-clause-words c = rw (words c) (words_are c.args.rows c.args.bytes.now)

pub returns-clause-rows : goal.returns-clause-rows
returns-clause-rows c = rw (words c, cues c) (rows_are c.args.rows c.args.bytes.now)
