-- The test of one bit by a mask is its test by a quotient.
use Rattle.std.proofs.Common.{◌≡◌, ℕ, zero, suc, ◌*◌, ◌/◌, ◌%◌, ◌^◌, ◌<◌, not, eqb, bit_and, arith}
use Rattle.std.specs.Int.{bit_at}
use Rattle.std.proofs.lemmas.Nat.Bits.{and_pow, bit_at-lt}
use Rattle.std.proofs.lemmas.Nat.{pow_pos}
use Rattle.std.proofs.lemmas.Bool.Decides.{nat_tests}

by_worth : (bit worth : ℕ) → bit < 2 → 0 < worth → not (eqb (bit * worth) 0) ≡ eqb bit 1
by_worth zero worth l p = grind (arith, nat_tests)
by_worth (suc zero) worth l p = grind (arith, nat_tests)
by_worth (suc (suc n)) worth l p = absurd (omega arith)

by_mask : (n k : ℕ) → not (eqb (bit_and n (2 ^ k)) 0) ≡ eqb (n / 2 ^ k % 2) 1
by_mask n k = rw (and_pow n k) (by_worth (bit_at n k) (2 ^ k) (bit_at-lt n k) (pow_pos k))

pub bit_16 : (n : ℕ) → not (eqb (bit_and n 65536) 0) ≡ eqb (n / 65536 % 2) 1
bit_16 n = by_mask n 16

pub bit_17 : (n : ℕ) → not (eqb (bit_and n 131072) 0) ≡ eqb (n / 131072 % 2) 1
bit_17 n = by_mask n 17
