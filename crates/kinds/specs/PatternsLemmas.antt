-- The order of patterns is that of numbers: a pattern that is not negative stands for itself, a negative one below all those.
use Rattle.std.specs.Prelude.{◌≡◌, ℕ, ◌/◌, ◌%◌, ◌^◌, ◌<◌, true, if◌then◌else◌, ℤ, pos, negsuc, ◌≤ℤ◌, ◌==◌}
use Rattle.std.specs.declared.cmp.Ordering.{Ordering}
use Rattle.std.proofs.Common.{sym, ap, ◌∙◌, arith}
use Rattle.std.specs.Ordering.{MatchOrdering}
use Rattle.std.proofs.lemmas.Int.{ints}
use Rattle.std.proofs.lemmas.Bool.Decides.{nat_tests}
use Rattle.kinds.specs.Orders.{order_n, order_z, sign}
use Rattle.kinds.specs.Patterns.{negative, below_sign, ranked, total_order}

abbrev standing_of : ℕ → ℤ
standing_of bits = if negative bits then negsuc bits else pos bits

-- the number above the lowest 52 bits decides, and under one such number those bits do
by_fields : (m n : ℕ) → (if m / 2 ^ 52 == n / 2 ^ 52 then order_n (m % 2 ^ 52) (n % 2 ^ 52) else order_n (m / 2 ^ 52) (n / 2 ^ 52)) ≡ order_n m n
by_fields m n = grind (arith, nat_tests)

total_is : (a b : ℕ) → total_order a b ≡ order_z (standing_of a) (standing_of b)
total_is a b =
    let e = by_fields (below_sign a) (below_sign b) in
    let f = by_fields (below_sign b) (below_sign a) in
    grind (arith, nat_tests)

same_place : (a b : ℕ) → sign (order_z (standing_of a) (standing_of b)) ≡ pos 0 → (a == b) ≡ true
same_place a b h = grind (arith, nat_tests)

order_chain : (a b c : ℤ) → sign (order_z a b) ≤ℤ pos 0 → sign (order_z b c) ≤ℤ pos 0 → sign (order_z a c) ≤ℤ pos 0
order_chain a b c h k = grind (arith, ints)

pub total_same : (a b : ℕ) → sign (total_order a b) ≡ pos 0 → (a == b) ≡ true
total_same a b h = same_place a b (ap sign (sym (total_is a b)) ∙ h)

pub total_chain : (a b c : ℕ) → sign (total_order a b) ≤ℤ pos 0 → sign (total_order b c) ≤ℤ pos 0 → sign (total_order a c) ≤ℤ pos 0
total_chain a b c h k =
    rw total_is (order_chain (standing_of a) (standing_of b) (standing_of c) (rw total_is at h) (rw total_is at k))

pub total_from_ranked : (a b : ℕ) (r : Ordering) → a < 2 ^ 64 → b < 2 ^ 64 → MatchOrdering r (ranked a < ranked b) (ranked a ≡ ranked b) (ranked b < ranked a) → r ≡ total_order a b
total_from_ranked a b r f g h = rw total_is (grind (arith, nat_tests))
