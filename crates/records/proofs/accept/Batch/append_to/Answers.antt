use Rattle.std.proofs.Common.{inl, inr, ⊎_elim, arith}
use Rattle.std.proofs.lemmas.Grind.{common_steps}
use Rattle.std.specs.Option.{option_map}
use Rattle.records.specs.Batches.{batch_records}
use Rattle.records.proofs.Appending.{all_appended, has_room, length_appended}
use Rattle.records.proofs.Accepting.{nothing_accepted}
use Rattle.records.proofs.accept.Batch.append_to.Goals as goal

pub push-requires : goal.push-requires
push-requires g c =
    let room = has_room c.loop-i.invariant.appending c.requires in
    grind (arith, common_steps)

pub returns-clause-values : goal.returns-clause-values
returns-clause-values g c =
    let filter = c.args.self.now.filter in
    all_appended c.loop-i.invariant.appending
    (nothing_accepted filter.ignore (option_map (λ x. x.now) filter.marks) _ _ _ (⊎_elim (λ e. inl e.1.0) (λ e. inr e.1.0) c.in-None.ensures.steps.0))

pub returns-clause-len : goal.returns-clause-len
returns-clause-len g c = length_appended c.args.store.now c.loop-i.store (batch_records c.args.self.now) (returns-clause-values g c)
