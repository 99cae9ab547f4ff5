use Rattle.std.specs.Iterator.Adapters.{enumerate_count, enumerate_source, zip_first, zip_second}
use Rattle.std.specs.Option.{option_map}
use Rattle.std.specs.Slice.Iter.{iter_rest}
use Rattle.columns.specs.Steps.{cells_left}
use Rattle.records.specs.Batches.{accepted_from, batch_records}
use Rattle.records.proofs.Appending.{Appending}
use Rattle.records.proofs.accept.Batch.append_to.Given as goal

abbrev pub invariant-loop-i : goal.invariant-loop-i
invariant-loop-i g l =
    let it = l.i-iterator in
    let filter = l.self.filter in
    record {
      can_next : (goal.iterator-loop-i g).can_next l.i-iterator;
      is_finite : (goal.iterator-loop-i g).is_finite l.i-iterator;
      appending : Appending l.initial.store l.store (batch_records l.self)
          (accepted_from filter.ignore (option_map (λ x. x.now) filter.marks) (enumerate_count it) (iter_rest (zip_first (enumerate_source it))) (cells_left (zip_second (enumerate_source it))));
    }
