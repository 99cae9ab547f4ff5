use Rattle.std.proofs.Common.{ltb, arith, rules, tests}
use Rattle.std.proofs.lemmas.Iterator.{YieldsList-from_slice, YieldsList-from_map}
use Rattle.std.proofs.lemmas.Iterator.Consumers.{fits_by_from_yields_list, sum_by_from_yields_List}
use Rattle.std.proofs.lemmas.List.Sums.{count_by-le-length}
use Rattle.emit.proofs.Sorting.{counts_below}
use Rattle.emit.proofs.counts.count_below.Goals as goal

pub sum-requires-clause-fits : goal.sum-requires-clause-fits
sum-requires-clause-fits g c =
    fits_by_from_yields_list (counts_below c.args.n) c.args.records.now c.map.result _
    (YieldsList-from_map _ (counts_below c.args.n) (YieldsList-from_slice _ cc) c.map.ensures.closure (λ x r q k. search (rules, tests)))
    (omega (arith, count_by-le-length (λ r. ltb r.group c.args.n) c.args.records.now))

pub returns : goal.returns
returns g c =
    sum_by_from_yields_List (counts_below c.args.n) c.args.records.now c.map.result c.sum.result c.sum.ensures.ran
    (YieldsList-from_map _ (counts_below c.args.n) (YieldsList-from_slice _ cc) c.map.ensures.closure (λ x r q k. search (rules, tests)))
