-- The equality and the order of texts, over their bytes.
use Rattle.std.specs.Prelude.{ℕ, Bool, true, false, if◌then◌else◌, ◌&&◌, List, [], ◌∷◌, ◌==◌, nat_lt}
use Rattle.std.specs.declared.cmp.Ordering.TheVariants.{Less, Equal, Greater}
use Rattle.std.specs.declared.cmp.Ordering.{Ordering}

abbrev pub same_bytes : List ℕ → List ℕ → Bool
same_bytes [] [] = true
same_bytes [] (y ∷ ys) = false
same_bytes (x ∷ xs) [] = false
same_bytes (x ∷ xs) (y ∷ ys) = x == y && same_bytes xs ys

-- by the first byte that differs; of two texts without one, the shorter comes first
abbrev pub order_bytes : List ℕ → List ℕ → Ordering
order_bytes [] [] = Equal
order_bytes [] (y ∷ ys) = Less
order_bytes (x ∷ xs) [] = Greater
order_bytes (x ∷ xs) (y ∷ ys) = if nat_lt x y then Less else if nat_lt y x then Greater else order_bytes xs ys
