-- The order of 64-bit floating-point patterns: totalOrder of IEEE 754.
use Rattle.std.specs.Prelude.{ℕ, ◌+◌, ◌-◌, ◌/◌, ◌%◌, ◌^◌, Bool, if◌then◌else◌, ◌==◌}
use Rattle.std.specs.declared.cmp.Ordering.TheVariants.{Less, Greater}
use Rattle.std.specs.declared.cmp.Ordering.{Ordering}
use Rattle.kinds.specs.Orders.{order_n}

-- the fields of a pattern: a sign bit, and below it eleven bits of exponent and 52 of fraction. The exponent is not cut to
-- eleven bits, since the laws of the order are owed for numbers of any size
abbrev pub negative : ℕ → Bool
negative bits = bits / 2 ^ 63 == 1

abbrev pub below_sign : ℕ → ℕ
below_sign bits = if negative bits then bits - 2 ^ 63 else bits

abbrev pub exponent : ℕ → ℕ
exponent bits = below_sign bits / 2 ^ 52

abbrev pub fraction : ℕ → ℕ
fraction bits = bits % 2 ^ 52

-- by distance from zero: by exponent, and under one exponent by fraction. So zeros come first, then the subnormal and normal
-- numbers by value, the infinities, the signalling NaNs and the quiet NaNs, whose fraction has its top bit set
abbrev pub order_magnitude : ℕ → ℕ → Ordering
order_magnitude a b = if exponent a == exponent b then order_n (fraction a) (fraction b) else order_n (exponent a) (exponent b)

-- negative patterns come before the others; they stand by falling distance from zero, the others by rising
abbrev pub total_order : ℕ → ℕ → Ordering
total_order a b = if negative a then (if negative b then order_magnitude b a else Less) else if negative b then Greater else order_magnitude a b

-- a number of 64 bits for each pattern, in the same order: all bits flipped where the sign bit is set, else that bit alone
abbrev pub ranked : ℕ → ℕ
ranked bits = if negative bits then 2 ^ 64 - 1 - bits else 2 ^ 63 + bits
