use Rattle.slices.proofs.Rotating.{insertion, values_inserted}
use Rattle.slices.proofs.slice_vec.SliceVec.insert.Goals as goal

pub returns-clause-places : goal.returns-clause-places
returns-clause-places g c =
    let v = c.args.self.now in
    insertion v.slots.now c.push.new.self.slots.now c.rotate_right.new.self v.len c.args.at c.push.new.self.len c.args.value c.requires.within c.requires.room c.push.ensures.places c.push.ensures.len
    c.rotate_right.ensures.after

pub returns-clause-values : goal.returns-clause-values
returns-clause-values g c =
    let v = c.args.self.now in
    values_inserted v.slots.now _ v.len c.args.at c.push.new.self.len c.args.value c.requires.within c.requires.room c.push.ensures.len (returns-clause-places g c)
