-- Each sum counts some of the valid rows, which are at most all rows, so that none wraps.
use Rattle.std.proofs.Common.{◌≡◌, sum_by, arith, rules}
use lib.Count.{ones}
use Rattle.std.proofs.lemmas.Iterator.{YieldsList-from_slice, YieldsList-from_map}
use Rattle.std.proofs.lemmas.Iterator.Consumers.{fits_by_from_yields_list}
use Rattle.bitmap.proofs.Counting.{words_and_rest}
use Rattle.bitmap.proofs.ones.Goals as goal

pub sum-in_words-requires-clause-fits : goal.sum-in_words-requires-clause-fits
sum-in_words-requires-clause-fits c =
    let all = words_and_rest c.args.bytes.now _ _ c.as_chunks.ensures.front c.as_chunks.ensures.back (λ i. (c.type_inv.bytes i).fits) in
    fits_by_from_yields_list (sum_by ones) c.as_chunks.result.0.now c.map.result _
    (YieldsList-from_map _ (sum_by ones) (YieldsList-from_slice _ cc) c.map.ensures.closure (λ x r q k. search rules))
    (omega arith)

pub sum-in_rest-requires-clause-fits : goal.sum-in_rest-requires-clause-fits
sum-in_rest-requires-clause-fits c =
    let all = words_and_rest c.args.bytes.now _ _ c.as_chunks.ensures.front c.as_chunks.ensures.back (λ i. (c.type_inv.bytes i).fits) in
    fits_by_from_yields_list ones c.as_chunks.result.1.now c.map-2.result _
    (YieldsList-from_map _ ones (YieldsList-from_slice _ cc) c.map-2.ensures.closure (λ x r q k. search rules))
    (omega arith)

pub overflow_add-result : goal.overflow_add-result
overflow_add-result c =
    let words : c.sum-in_words.result ≡ sum_by (sum_by ones) c.as_chunks.result.0.now = search rules in
    let rest : c.sum-in_rest.result ≡ sum_by ones c.as_chunks.result.1.now = search rules in
    let all = words_and_rest c.args.bytes.now _ _ c.as_chunks.ensures.front c.as_chunks.ensures.back (λ i. (c.type_inv.bytes i).fits) in
    search rules

pub returns : goal.returns
returns c =
    let words : c.sum-in_words.result ≡ sum_by (sum_by ones) c.as_chunks.result.0.now = search rules in
    let rest : c.sum-in_rest.result ≡ sum_by ones c.as_chunks.result.1.now = search rules in
    omega (arith, words_and_rest c.args.bytes.now _ _ c.as_chunks.ensures.front c.as_chunks.ensures.back (λ i. (c.type_inv.bytes i).fits))
