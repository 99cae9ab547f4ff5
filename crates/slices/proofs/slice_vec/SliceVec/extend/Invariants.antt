use Rattle.std.proofs.Common.{◌≡◌, ◌+◌, ◌++◌, length, drop}
use Rattle.slices.specs.Vecs.{places, slice_vec_len, spare_places, values, KeepsSlice}
use Rattle.slices.proofs.slice_vec.SliceVec.extend.Given as goal

abbrev pub invariant-loop-value : goal.invariant-loop-value
invariant-loop-value g l = record {
  same_slice : KeepsSlice l.initial.self l.self;
  front : values l.self ≡ values l.initial.self ++ l.yielded;
  count : slice_vec_len l.self ≡ slice_vec_len l.initial.self + length l.yielded;
  spare : spare_places l.self ≡ drop (slice_vec_len l.self) (places l.initial.self);
}
