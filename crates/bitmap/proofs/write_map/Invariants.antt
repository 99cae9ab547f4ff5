use Rattle.std.proofs.Common.{◌≡◌, ◌*◌, ◌≤◌, length, drop}
use Rattle.std.specs.Iterator.Adapters.{enumerate_count, enumerate_source}
use Rattle.std.specs.Slice.Iter.{chunks_rest, chunks_size}
use Rattle.bitmap.specs.Bits.{bytes_for}
use Rattle.bitmap.specs.Maps.{flag_at}
use Rattle.bitmap.proofs.Filled.{filled}
use Rattle.bitmap.proofs.write_map.Given as goal

abbrev pub invariant-loop-k : goal.invariant-loop-k
invariant-loop-k l =
    record {
      eight : chunks_size (enumerate_source l.k-iterator) ≡ 8;
      left : chunks_rest (enumerate_source l.k-iterator) ≡ drop (8 * enumerate_count l.k-iterator) l.flags;
      within : enumerate_count l.k-iterator ≤ bytes_for (length l.flags);
      written : l.out ≡ filled (flag_at l.flags) (length l.flags) (enumerate_count l.k-iterator) l.initial.out;
    }
