use Rattle.slices.specs.Closures.{Computes}
use Rattle.slices.proofs.Keeping.{Kept}
use Rattle.slices.proofs.slice_vec.SliceVec.filter_map_in_place.Given as goal

abbrev pub invariant-loop-i : goal.invariant-loop-i
invariant-loop-i g l = Kept (λ h. Computes g.F.Fn h l.f) l.initial.slots l.slots l.kept l.i
