use Rattle.std.proofs.Common.{◌<◌, length, arith}
use Rattle.slices.proofs.Keeping.{kept_more, kept_no_more}
use Rattle.slices.proofs.slice_vec.SliceVec.filter_map_in_place.Goals as goal
use Rattle.slices.proofs.slice_vec.SliceVec.filter_map_in_place.Goals.{in-Some, in_default}

pub loop-i-preserved : goal.loop-i-preserved
loop-i-preserved g c =
    let long = c.loop-i.auto.slots in
    let all = c.args.self.now.within in
    let within : c.loop-i.i < length c.args.self.now.slots.now = omega arith in
    elim c.match-f.branch [
      | in-Some w ↦ rw (w.slots-is, w.kept-is) (kept_more c.loop-i.invariant within c.index-slots-i.result c.index-slots-i.is w.in-Some.value (λ h k. k _ _ w.in-Some.ensures) (omega arith))
      | in_default w ↦ rw (w.slots-is, w.kept-is) (kept_no_more c.loop-i.invariant within c.index-slots-i.result c.index-slots-i.is (λ h k. k _ _ w.in_default.ensures))
    ]
