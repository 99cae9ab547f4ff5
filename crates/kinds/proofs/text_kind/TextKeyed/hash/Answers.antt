-- Spare bytes are zero, so that the words of the array are the text's words.
use Rattle.std.proofs.Common.{◌≡◌, ◌/◌, [], length, get_or, ap, ◌∙◌, rules}
use Rattle.std.specs.Simd.{first_chunks}
use Rattle.std.proofs.lemmas.List.{length-take-le}
use Rattle.kinds.specs.Hashes.{word_at}
use Rattle.kinds.specs.TextBytes.{text_of}
use Rattle.kinds.proofs.Padded.{word_of_chunk}
use Rattle.kinds.proofs.text_kind.TextKeyed.hash.Goals as goal

pub returns : goal.returns
returns c =
    let a = c.args.self.now in
    let whole : length a.bytes ≡ 16 = search rules in
    let chunks = c.as_chunks.ensures.front ∙ ap (λ n. first_chunks 8 (n / 8) a.bytes) whole in
    let low : c.from_le_bytes-low.result ≡ word_at (get_or (first_chunks 8 2 a.bytes) 0 []) 0 = cc in
    let high : c.from_le_bytes-high.result ≡ word_at (get_or (first_chunks 8 2 a.bytes) 1 []) 0 = cc in
    let front = word_of_chunk a.len a.bytes a.spare 0 in
    let back = word_of_chunk a.len a.bytes a.spare 8 in
    let size : length (text_of a) ≡ a.len = length-take-le a.len a.bytes (search rules) in
    cc
