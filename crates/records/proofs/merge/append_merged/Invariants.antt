use Rattle.std.specs.Iterator.Adapters.{zip_first, zip_second}
use Rattle.std.specs.Slice.Iter.{iter_rest}
use Rattle.columns.specs.Steps.{lists_in, lists_left}
use Rattle.records.proofs.Appending.{Appending}
use Rattle.records.proofs.Merging.{brought}
use Rattle.records.proofs.merge.append_merged.Given as goal

abbrev pub invariant-loop-group : goal.invariant-loop-group
invariant-loop-group g l = record {
  can_next : (goal.iterator-loop-group g).can_next l.group-iterator;
  is_finite : (goal.iterator-loop-group g).is_finite l.group-iterator;
  appending : Appending l.initial.store l.store (brought l.groups (lists_in l.column)) (brought (iter_rest (zip_first l.group-iterator)) (lists_left (zip_second l.group-iterator)));
}
