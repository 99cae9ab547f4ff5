-- The flags before j fill the bits below j, so that the bit of flag j is free, and a byte has room for it.
use Rattle.std.proofs.Common.{◌≡◌, ◌+◌, ◌*◌, ◌^◌, ◌<◌, ◌≤◌, pow-suc, add-one, arith, pow_mono, rules}
use Rattle.std.proofs.lemmas.Nat.{one_shl}
use Rattle.bitmap.specs.Maps.{flag_at}
use Rattle.bitmap.proofs.Bits.{packed_lt}
use Rattle.bitmap.proofs.pack.Goals as goal

pub overflow_add-byte : goal.overflow_add-byte
overflow_add-byte c =
    let inside : c.loop-j.j < 8 = omega arith in
    let room : 2 ^ (c.loop-j.j + 1) ≤ 2 ^ 8 = pow_mono {j = 8} (omega arith) in
    let twice : 2 ^ (c.loop-j.j + 1) ≡ 2 ^ c.loop-j.j * 2 = rw add-one (pow-suc 2 c.loop-j.j) in
    let low = packed_lt (flag_at c.args.flags.now) 0 c.loop-j.j in
    let bit = one_shl c.loop-j.j 8 inside in
    search rules
