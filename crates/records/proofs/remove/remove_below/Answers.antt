use Rattle.std.proofs.Common.{length, ap, sym, ◌∙◌, cond, leb, None, Some, rules, tests}
use Rattle.slices.specs.Vecs.{values}
use Rattle.records.specs.Records.{lowered}
use Rattle.records.proofs.Appending.{length_values}
use Rattle.records.proofs.Laws.{without_filter_map}
use Rattle.records.proofs.remove.remove_below.Goals as goal

pub returns-clause-values : goal.returns-clause-values
returns-clause-values g c =
    c.filter_map_in_place.ensures.values (λ r. cond (leb c.args.n r.group) (Some (lowered c.args.n r)) None) (λ x r k. search (rules, tests)) ∙ without_filter_map c.args.n (values c.args.store.now)

pub returns-clause-len : goal.returns-clause-len
returns-clause-len g c = sym (length_values c.filter_map_in_place.new.self) ∙ ap length (returns-clause-values g c)
