use Rattle.slices.proofs.Rotating.{removal, values_removed}
use Rattle.slices.proofs.slice_vec.SliceVec.remove.Goals as goal

pub returns-clause-places : goal.returns-clause-places
returns-clause-places g c =
    let v = c.args.self.now in
    removal v.slots.now c.rotate_left.new.self v.len c.args.at c.args.spare c.requires.within v.within c.rotate_left.ensures.after

pub returns-clause-values : goal.returns-clause-values
returns-clause-values g c =
    let v = c.args.self.now in
    values_removed v.slots.now _ v.len c.args.at c.args.spare c.requires.within v.within (returns-clause-places g c)
