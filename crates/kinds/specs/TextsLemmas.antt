-- The laws of the texts' equality and order, over any bytes.
use Rattle.std.specs.Prelude.{◌≡◌, ℕ, true, List, [], ◌∷◌, pos, neg_ℤ, ◌≤ℤ◌, ◌↔◌, IsTrue, refl}
use Rattle.std.proofs.Common.{sym, ◌∙◌, arith, rules}
use Rattle.std.specs.Cmp.Lexicographic.{slice_cmp}
use Rattle.std.specs.Ordering.{nat_cmp}
use Rattle.std.proofs.lemmas.Slice.Eq.{compares_Decides}
use Rattle.std.proofs.lemmas.Bool.Decides.{nat_tests, same_from_decides, Decides-like}
use Rattle.kinds.specs.Orders.{sign}
use Rattle.kinds.specs.Texts.{order_bytes, same_bytes}

pub same_decides : (xs ys : List ℕ) → IsTrue (same_bytes xs ys) ↔ (xs ≡ ys)
same_decides = compares_Decides same_bytes (search rules)

pub same_self : (xs : List ℕ) → same_bytes xs xs ≡ true
same_self xs = (same_decides xs xs).1 refl

pub same_swap : (xs ys : List ℕ) → same_bytes xs ys ≡ same_bytes ys xs
same_swap xs ys = same_from_decides _ _ (same_decides xs ys) (Decides-like (same_bytes ys xs) sym sym (same_decides ys xs))

pub same_chain : (xs ys zs : List ℕ) → same_bytes xs ys ≡ true → same_bytes ys zs ≡ true → same_bytes xs zs ≡ true
same_chain xs ys zs h k = (same_decides xs zs).1 ((same_decides xs ys).0 h ∙ (same_decides ys zs).0 k)

order_self : (xs : List ℕ) → sign (order_bytes xs xs) ≡ pos 0
order_self [] = refl
order_self (x ∷ xs) = let t = order_self xs in grind (arith, nat_tests)

pub order_zero : (xs ys : List ℕ) → same_bytes xs ys ≡ true → sign (order_bytes xs ys) ≡ pos 0
order_zero xs ys h = rw (← (same_decides xs ys).0 h) (order_self xs)

pub order_same : (xs ys : List ℕ) → sign (order_bytes xs ys) ≡ pos 0 → same_bytes xs ys ≡ true
order_same [] [] h = refl
order_same [] (y ∷ ys) h = grind arith
order_same (x ∷ xs) [] h = grind arith
order_same (x ∷ xs) (y ∷ ys) h = let t = order_same xs ys in grind (arith, nat_tests)

pub order_swap : (xs ys : List ℕ) → sign (order_bytes ys xs) ≡ neg_ℤ (sign (order_bytes xs ys))
order_swap [] [] = refl
order_swap [] (y ∷ ys) = refl
order_swap (x ∷ xs) [] = refl
order_swap (x ∷ xs) (y ∷ ys) = let t = order_swap xs ys in grind (arith, nat_tests)

pub order_chain : (xs ys zs : List ℕ) → sign (order_bytes xs ys) ≤ℤ pos 0 → sign (order_bytes ys zs) ≤ℤ pos 0 → sign (order_bytes xs zs) ≤ℤ pos 0
order_chain [] [] zs h k = k
order_chain [] (y ∷ ys) [] h k = record { le = tt }
order_chain [] (y ∷ ys) (z ∷ zs) h k = record { le = tt }
order_chain (x ∷ xs) [] zs h k = absurd h.le
order_chain (x ∷ xs) (y ∷ ys) [] h k = absurd k.le
order_chain (x ∷ xs) (y ∷ ys) (z ∷ zs) h k = let t = order_chain xs ys zs in grind (arith, nat_tests)

-- what `cmp` answers of two slices of bytes
pub order_from_lex : (xs ys : List ℕ) → slice_cmp nat_cmp xs ys ≡ order_bytes xs ys
order_from_lex [] [] = refl
order_from_lex [] (y ∷ ys) = refl
order_from_lex (x ∷ xs) [] = refl
order_from_lex (x ∷ xs) (y ∷ ys) = let t = order_from_lex xs ys in grind (arith, nat_tests)
