-- What a comparison answers, as a number, and the order of numbers.
use Rattle.std.specs.Prelude.{ℕ, Bool, if◌then◌else◌, ◌&&◌, ℤ, pos, negsuc, int_le, int_lt, nat_lt}
use Rattle.std.specs.declared.cmp.Ordering.TheVariants.{Less, Equal, Greater}
use Rattle.std.specs.declared.cmp.Ordering.{Ordering}

-- the number of an answer: -1 where the first comes before the second, 0 where they are equal, 1 where it comes after
abbrev pub sign : Ordering → ℤ
sign Less = negsuc 0
sign Equal = pos 0
sign Greater = pos 1

-- by number, the lower one first
abbrev pub order_n : ℕ → ℕ → Ordering
order_n a b = if nat_lt a b then Less else if nat_lt b a then Greater else Equal

abbrev pub order_z : ℤ → ℤ → Ordering
order_z a b = if int_lt a b then Less else if int_lt b a then Greater else Equal

abbrev pub same_z : ℤ → ℤ → Bool
same_z a b = int_le a b && int_le b a
