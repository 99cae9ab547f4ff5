-- Bytes that are zero from some place on: what they hold is told by those before it.
use Rattle.std.proofs.Common.{◌≡◌, ℕ, ◌-◌, ◌<◌, ◌≤◌, ◌==◌, ◌&&◌, nat_eq, List, length, refl, ap, get_or, take, drop, replicate, ◌∙◌, add-zero, lit<, arith}
use Rattle.std.proofs.lemmas.Grind.{common_steps}
use Rattle.std.proofs.lemmas.List.{get_or-drop, get_or-take, get_or-replicate, length-take-le, take-append-drop}
use Rattle.std.proofs.lemmas.Slice.Eq.{slice_eq-Decides}
use Rattle.std.proofs.lemmas.Bool.Decides.{same_from_decides, Decides-and, Decides-eqb, Decides-like}
use Rattle.std.specs.Cmp.Lexicographic.{pointwise}
use Rattle.kinds.specs.Texts.{same_bytes}
use Rattle.kinds.specs.TextsLemmas.{same_decides}
use Rattle.kinds.specs.Hashes.{word_at}

whole_padded : (m n : ℕ) (xs ys : List ℕ) → drop m xs ≡ replicate (16 - m) 0 → drop n ys ≡ replicate (16 - n) 0 → m ≡ n → take m xs ≡ take n ys → xs ≡ ys
whole_padded m n xs ys spare spare' e front =
    let x = take-append-drop m xs in
    let y = take-append-drop n ys in
    cc

-- the same text has one length and, spare bytes being zero, the same array
pub same_padded : (m n : ℕ) (xs ys : List ℕ) → length xs ≡ 16 → length ys ≡ 16 → m ≤ 16 → n ≤ 16 → drop m xs ≡ replicate (16 - m) 0 → drop n ys ≡ replicate (16 - n) 0 → same_bytes (take m xs) (take n ys) ≡ (pointwise nat_eq xs ys && (m == n))
same_padded m n xs ys all all' short short' spare spare' =
    let one_len : take m xs ≡ take n ys → m ≡ n = λ e. omega (arith, ap length e, length-take-le m xs (omega arith), length-take-le n ys (omega arith)) in
    same_from_decides _ _ (same_decides (take m xs) (take n ys))
    (Decides-like _ (λ e. cc) (λ e. (whole_padded m n xs ys spare spare' (one_len e) e, one_len e)) (Decides-and _ _ (slice_eq-Decides Decides-eqb xs ys _ refl) (Decides-eqb m n)))

get_or_front : (n : ℕ) (xs : List ℕ) → drop n xs ≡ replicate (16 - n) 0 → (i : ℕ) → get_or (take n xs) i 0 ≡ get_or xs i 0
get_or_front n xs spare i = grind (arith, common_steps, get_or-drop n xs (i - n) 0, get_or-replicate {A = ℕ} (16 - n) (i - n) 0 0)

-- a text's word at p is that of the eight bytes of the array from there on
pub word_of_chunk : (n : ℕ) (xs : List ℕ) → drop n xs ≡ replicate (16 - n) 0 → (p : ℕ) → word_at (take 8 (drop p xs)) 0 ≡ word_at (take n xs) p
word_of_chunk n xs spare p =
    let byte = λ (i : ℕ) (h : i < 8). get_or-take 8 (drop p xs) i 0 h ∙ get_or-drop p xs i 0 in
    simp (add-zero, get_or_front n xs spare, byte 0 (lit< tt), byte 1 (lit< tt), byte 2 (lit< tt), byte 3 (lit< tt), byte 4 (lit< tt), byte 5 (lit< tt), byte 6 (lit< tt), byte 7 (lit< tt))
