use Rattle.std.proofs.Common.{arith, length, ap, ◌∙◌, [], rules, tests}
use Rattle.std.proofs.lemmas.Iterator.{YieldsList-from_map}
use Rattle.std.proofs.lemmas.Iterator.Consumers.{YieldsList-at, sum_by_from_yields_List, fits_by_from_yields_list}
use Rattle.std.specs.List.{flat_map}
use Rattle.std.specs.Option.{option_to_list}
use Rattle.columns.specs.Steps.{lists_in, lists_left}
use Rattle.records.proofs.Counting.{parts_yielded}
use Rattle.records.proofs.Merging.{column_counted, column_few}
use Rattle.records.proofs.merge.count_merged.Goals as goal

pub sum-requires-clause-fits : goal.sum-requires-clause-fits
sum-requires-clause-fits g c =
    let column = c.args.column.now in
    fits_by_from_yields_list length (flat_map option_to_list (lists_in column)) c.map.result _
    (YieldsList-from_map _ length (YieldsList-at c.map.ensures.source (parts_yielded _ c.flatten.result column (λ list o b. b.0) (ap lists_left c.flatten.ensures.source ∙ c.iter.ensures) c.flatten.ensures.front c.flatten.ensures.back c.flatten.ensures.done))
    c.map.ensures.closure (λ x r q k. search (rules, tests)))
    (omega (arith, column_counted column [], column_few column []))

pub returns : goal.returns
returns g c groups =
    let column = c.args.column.now in
    sum_by_from_yields_List length (flat_map option_to_list (lists_in column)) c.map.result c.sum.result c.sum.ensures.ran
    (YieldsList-from_map _ length (YieldsList-at c.map.ensures.source (parts_yielded _ c.flatten.result column (λ list o b. b.0) (ap lists_left c.flatten.ensures.source ∙ c.iter.ensures) c.flatten.ensures.front c.flatten.ensures.back c.flatten.ensures.done))
    c.map.ensures.closure (λ x r q k. search (rules, tests)))
    ∙ column_counted column groups
