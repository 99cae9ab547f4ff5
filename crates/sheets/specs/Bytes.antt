-- Numbers in bytes, low byte first.
use Rattle.std.specs.Prelude.{ℕ, ◌+◌, ◌*◌, List, slice_index}

-- the unsigned number in the four bytes from place p on
abbrev pub le4 : List ℕ → ℕ → ℕ
le4 bytes p = slice_index bytes p + slice_index bytes (p + 1) * 256 + slice_index bytes (p + 2) * 65536 + slice_index bytes (p + 3) * 16777216

-- the unsigned number in the eight bytes from place p on
abbrev pub le8 : List ℕ → ℕ → ℕ
le8 bytes p =
    slice_index bytes p + slice_index bytes (p + 1) * 256 + slice_index bytes (p + 2) * 65536 + slice_index bytes (p + 3) * 16777216 + slice_index bytes (p + 4) * 4294967296
    + slice_index bytes (p + 5) * 1099511627776 + slice_index bytes (p + 6) * 281474976710656 + slice_index bytes (p + 7) * 72057594037927936
