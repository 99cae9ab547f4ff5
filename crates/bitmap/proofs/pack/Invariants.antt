use Rattle.std.proofs.Common.{◌≡◌}
use Rattle.bitmap.specs.Bits.{packed}
use Rattle.bitmap.specs.Maps.{flag_at}
use Rattle.bitmap.proofs.pack.Given as goal

abbrev pub invariant-loop-j : goal.invariant-loop-j
invariant-loop-j l = l.byte ≡ packed (flag_at l.flags) 0 l.j
