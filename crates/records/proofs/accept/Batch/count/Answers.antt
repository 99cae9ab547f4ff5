use Rattle.std.proofs.Common.{◌∙◌, arith, rules, tests}
use Rattle.std.specs.Option.{option_map}
use Rattle.std.specs.List.{enumerate_from, zip}
use Rattle.std.proofs.lemmas.Iterator.{YieldsList-from_map}
use Rattle.std.proofs.lemmas.Iterator.Consumers.{YieldsList-at, fits_by_from_yields_list, sum_by_from_yields_List}
use Rattle.columns.specs.Columns.{cells_in}
use Rattle.records.proofs.Accepting.{accepted_summed, counts_accepted, rows_yielded}
use Rattle.records.proofs.Laws.{accepted_le}
use Rattle.records.proofs.accept.Batch.count.Goals as goal

pub sum-requires-clause-fits : goal.sum-requires-clause-fits
sum-requires-clause-fits g c =
    let batch = c.args.self.now in
    let marks = option_map (λ x. x.now) batch.filter.marks in
    fits_by_from_yields_list (counts_accepted batch.filter.ignore marks) (enumerate_from 0 (zip batch.groups.now (cells_in batch.cells.now))) c.map.result _
    (YieldsList-from_map _ (counts_accepted batch.filter.ignore marks)
    (YieldsList-at c.map.ensures.source (rows_yielded batch.groups.now (cells_in batch.cells.now) c.enumerate.result (cc) (cc) (cc)))
    c.map.ensures.closure (λ x r q k. search (rules, tests)))
    (omega (arith, accepted_summed batch.filter.ignore marks batch.groups.now (cells_in batch.cells.now), accepted_le batch.filter.ignore marks 0 batch.groups.now (cells_in batch.cells.now)))

pub returns : goal.returns
returns g c =
    let batch = c.args.self.now in
    let marks = option_map (λ x. x.now) batch.filter.marks in
    sum_by_from_yields_List (counts_accepted batch.filter.ignore marks) (enumerate_from 0 (zip batch.groups.now (cells_in batch.cells.now))) c.map.result c.sum.result c.sum.ensures.ran
    (YieldsList-from_map _ (counts_accepted batch.filter.ignore marks)
    (YieldsList-at c.map.ensures.source (rows_yielded batch.groups.now (cells_in batch.cells.now) c.enumerate.result (cc) (cc) (cc)))
    c.map.ensures.closure (λ x r q k. search (rules, tests)))
    ∙ accepted_summed batch.filter.ignore marks batch.groups.now (cells_in batch.cells.now)
