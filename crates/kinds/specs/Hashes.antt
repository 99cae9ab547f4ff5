-- How the hashes mix 64 bits: two rounds of folding the high half into the low and multiplying by an odd number.
use Rattle.std.specs.Prelude.{ℕ, ◌+◌, ◌*◌, ◌/◌, ◌%◌, ◌^◌, List, length, bit_xor, slice_index}

abbrev pub folded32 : ℕ → ℕ
folded32 n = bit_xor n (n / 2 ^ 32)

abbrev pub scattered : ℕ → ℕ
scattered n = n * 0x9e37_79b9_7f4a_7c15 % 2 ^ 64

unfoldable pub mixed : ℕ → ℕ
mixed n = folded32 (scattered (folded32 (scattered (folded32 n))))

-- the eight bytes from place p on as a number, lowest first; a byte past the end counts as zero
abbrev pub word_at : List ℕ → ℕ → ℕ
word_at bytes p =
    slice_index bytes p + slice_index bytes (p + 1) * 2 ^ 8 + slice_index bytes (p + 2) * 2 ^ 16 + slice_index bytes (p + 3) * 2 ^ 24
    + slice_index bytes (p + 4) * 2 ^ 32 + slice_index bytes (p + 5) * 2 ^ 40 + slice_index bytes (p + 6) * 2 ^ 48 + slice_index bytes (p + 7) * 2 ^ 56

-- the hash of up to sixteen bytes: over both words and the length
abbrev pub mixed_bytes : List ℕ → ℕ
mixed_bytes bytes = mixed (bit_xor (word_at bytes 0) (mixed (bit_xor (word_at bytes 8) (length bytes))))
