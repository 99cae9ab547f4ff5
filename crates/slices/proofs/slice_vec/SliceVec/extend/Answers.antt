use Rattle.std.proofs.Common.{◌++◌, sym, ap, ◌∙◌}
use Rattle.std.proofs.iter.runs.Made.{run_of_exit}
use Rattle.slices.specs.Vecs.{values}
use Rattle.slices.proofs.slice_vec.SliceVec.extend.Goals as goal

pub returns-clause-runs : goal.returns-clause-runs
returns-clause-runs g c =
    let (p, from, whole, (items, len)) = run_of_exit g.I.Iterator.next_gives _ c.loop-value.yielded _ c.loop-value.yielded_by _ c.in-None.ensures.steps in
    (p, (cc), whole, c.loop-value.invariant.front ∙ ap (λ zs. values c.args.self.now ++ zs) (sym items))
