use Rattle.std.proofs.Common.{◌++◌, length, ap, sym, ◌∙◌, arith, ⊎_elim, inl, inr, rules, tests}
use Rattle.std.proofs.lemmas.List.{length-append, length-map}
use Rattle.std.proofs.lemmas.Iterator.{YieldsList-from_map}
use Rattle.std.proofs.lemmas.Iterator.Consumers.{YieldsList-at, YieldsList-from_first}
use Rattle.columns.specs.Columns.{part_cells}
use Rattle.columns.specs.Steps.{cells_left}
use Rattle.slices.specs.Vecs.{values}
use Rattle.records.specs.Batches.{column_records}
use Rattle.records.proofs.Appending.{all_appended, appended, has_room, length_appended}
use Rattle.records.proofs.Extending.{extended, extension_fits}
use Rattle.records.proofs.Laws.{for_group}
use Rattle.records.proofs.Merging.{column_brought, next_list, no_list}
use Rattle.records.proofs.merge.append_merged.Goals as goal

pub extend-requires-clause-room : goal.extend-requires-clause-room
extend-requires-clause-room g c =
    let cells = part_cells c.in-Some-list.part in
    extension_fits
    (YieldsList-from_map _ (for_group c.in-Some.group.now) (YieldsList-at c.map.ensures.source (YieldsList-from_first (λ x. x) cells_left cells c.iter-in-Some-list.ensures)) c.map.ensures.closure (λ x r q k. search (rules, tests)))
    _ _
    (omega (
      arith,
      has_room c.loop-group.invariant.appending (omega (arith, ap length (column_brought c.args.column.now c.args.groups.now c.requires.groups))),
      simp (length-append, length-map) at (ap length (next_list c.in-Some.ensures.steps c.in-Some-list.part c.in-Some-list.is)),
      length-map cells (for_group c.in-Some.group.now),
    ))

pub loop-group-preserved-in-Some-list : goal.loop-group-preserved-in-Some-list
loop-group-preserved-in-Some-list g c =
    let cells = part_cells c.in-Some-list.part in
    let held =
    extended
    (YieldsList-from_map _ (for_group c.in-Some.group.now) (YieldsList-at c.map.ensures.source (YieldsList-from_first (λ x. x) cells_left cells c.iter-in-Some-list.ensures)) c.map.ensures.closure (λ x r q k. search (rules, tests)))
    _ _ c.extend.ensures.runs in
    record {
      can_next = (tt, tt);
      is_finite = tt;
      appending = appended c.loop-group.invariant.appending c.extend.new.self _ _ (next_list c.in-Some.ensures.steps c.in-Some-list.part c.in-Some-list.is) c.extend.ensures.same_slice held c.extend.ensures.spare;
    }

pub returns-clause-values : goal.returns-clause-values
returns-clause-values g c =
    all_appended c.loop-group.invariant.appending (no_list _ _ (⊎_elim (λ e. inl e.1.0) (λ e. inr e.1.0) c.in-None.ensures.steps))
    ∙ ap (λ records. values c.args.store.now ++ records) (sym (column_brought c.args.column.now c.args.groups.now c.requires.groups))

pub returns-clause-len : goal.returns-clause-len
returns-clause-len g c = length_appended c.args.store.now c.loop-group.store (column_records c.args.column.now c.args.groups.now) (returns-clause-values g c)
