-- The valid rows of a map, counted by set bits: in a part of a byte, in bytes, in bytes taken eight at a time.
use Rattle.std.proofs.Common.{◌≡◌, ℕ, zero, suc, ◌+◌, ◌*◌, ◌/◌, ◌%◌, ◌^◌, ◌<◌, ◌≤◌, Bool, true, false, cond, not, eqb, List, [], ◌∷◌, map, length, get_or, take, drop, count_by, sum_by, sym, refl, ap, ◌∙◌, add-zero, mod-lt, pow-suc, one-add, add-one, arith}
use lib.Count.{ones, ones_cat, ones-ones}
use Rattle.std.proofs.Math.Nat.{mul-le-mul_right}
use Rattle.std.proofs.lemmas.Nat.{mod-pow-add, mod_below, pow_pos, pow-add}
use Rattle.std.proofs.lemmas.List.{take-append-drop, take-take, drop-take, take_all, get_or-take, length-take-le}
use Rattle.std.proofs.lemmas.List.FromFn.{fill_by_all, get_or-map-range_with_len, length-map-range_with_len, sum_by-map-range_with_len_more}
use Rattle.std.proofs.lemmas.List.Sums.{count_by-le-length, sum_by-append, sum_by-cons, sum_by_more, sum_by-take-drop}
use Rattle.std.specs.Int.{byte_worth, from_le_bytes, sum_through, w64}
use Rattle.std.specs.List.{range_with_len}
use Rattle.std.specs.Simd.{first_chunks}
use Rattle.bitmap.specs.Bits.{valid_at}
use Rattle.bitmap.specs.Counts.{valid_in}

pub valid_in_le : (xs : List ℕ) (n : ℕ) → valid_in xs n ≤ n
valid_in_le xs n = omega (arith, count_by-le-length (λ v. v) (map (valid_at xs) (range_with_len 0 n)), length-map-range_with_len (valid_at xs) 0 n)

-- each row is null or valid
nulls_and_valid : (vs : List Bool) → count_by not vs + count_by (λ v. v) vs ≡ length vs
nulls_and_valid [] = refl
nulls_and_valid (true ∷ vs) = omega (arith, sum_by-cons (λ x. cond (not x) 1 0) true vs, sum_by-cons (λ x. cond x 1 0) true vs, nulls_and_valid vs)
nulls_and_valid (false ∷ vs) = omega (arith, sum_by-cons (λ x. cond (not x) 1 0) false vs, sum_by-cons (λ x. cond x 1 0) false vs, nulls_and_valid vs)

pub nulls_are : (xs : List ℕ) (n : ℕ) → count_by not (map (valid_at xs) (range_with_len 0 n)) + valid_in xs n ≡ n
nulls_are xs n = nulls_and_valid (map (valid_at xs) (range_with_len 0 n)) ∙ length-map-range_with_len (valid_at xs) 0 n

-- a bit counts itself
one_bit : (t : ℕ) → t < 2 → ◌≡◌ {A = ℕ} (cond (eqb t 1) 1 0) (ones t)
unfolding ones
one_bit zero h = refl
one_bit (suc zero) h = refl
one_bit (suc (suc t)) h = absurd (omega arith)

-- one bit more
ones_more : (b j : ℕ) → ones (b % 2 ^ suc j) ≡ ones (b / 2 ^ j % 2) + ones (b % 2 ^ j)
ones_more b j =
    ap (λ (x : ℕ). ones (b % 2 ^ x)) (sym (one-add j)) ∙ ap ones (mod-pow-add b 1 j) ∙ ones_cat j (b / 2 ^ j % 2) (b % 2 ^ j) (mod_below b (2 ^ j) (pow_pos j))

-- the first j rows of byte k
pub valid_part : (xs : List ℕ) (k j : ℕ) → j ≤ 8 → valid_in xs (8 * k + j) ≡ valid_in xs (8 * k) + ones (get_or xs k 0 % 2 ^ j)
valid_part xs k zero h =
    let none : get_or xs k 0 % 1 ≡ 0 = omega arith in
    omega (arith, ap (valid_in xs) (add-zero (8 * k)), ap ones none, ones-ones 0)
valid_part xs k (suc j) h =
    let place : 8 * k + suc j ≡ (8 * k + j) + 1 = omega arith in
    let d : (8 * k + j) / 8 ≡ k = omega arith in
    let m : (8 * k + j) % 8 ≡ j = omega arith in
    let v : ◌≡◌ {A = ℕ} (cond (valid_at xs (8 * k + j)) 1 0) (cond (eqb (get_or xs k 0 / 2 ^ j % 2) 1) 1 0) = rw (d, m) in
    let row = sum_by-map-range_with_len_more (λ x. cond x 1 0) (valid_at xs) 0 (8 * k + j) (8 * k + j) (omega arith) in
    let bit = one_bit (get_or xs k 0 / 2 ^ j % 2) (mod-lt _ (omega arith)) in
    omega (arith, ap (valid_in xs) place, ones_more (get_or xs k 0) j, valid_part xs k j (omega arith))

-- the rows of whole bytes
valid_bytes : (xs : List ℕ) (n : ℕ) → n ≤ length xs → ((i : ℕ) → get_or xs i 0 < 256) → valid_in xs (8 * n) ≡ sum_by ones (take n xs)
valid_bytes xs zero h fits = refl
valid_bytes xs (suc n) h fits =
    let place : 8 * suc n ≡ 8 * n + 8 = omega arith in
    let whole : get_or xs n 0 % 2 ^ 8 ≡ get_or xs n 0 = omega (arith, fits n) in
    omega (
      arith,
      ap (valid_in xs) place,
      valid_part xs n 8 (omega arith),
      ap ones whole,
      sum_by_more ones xs n 0 (omega arith),
      ap (λ (x : ℕ). sum_by ones (take x xs)) (add-one n),
      valid_bytes xs n (omega arith) fits,
    )

-- the rows of the bytes at the front
valid_front : (xs : List ℕ) (k n : ℕ) → n ≤ 8 * k → valid_in (take k xs) n ≡ valid_in xs n
valid_front xs k n h = ap (count_by (λ v. v)) same
  where
    same : map (valid_at (take k xs)) (range_with_len 0 n) ≡ map (valid_at xs) (range_with_len 0 n)
    same =
        fill_by_all (valid_at xs) (map (valid_at (take k xs)) (range_with_len 0 n)) n false (length-map-range_with_len (valid_at (take k xs)) 0 n)
        (λ i l. get_or-map-range_with_len (valid_at (take k xs)) 0 n i i false l (omega arith) ∙ ap (λ (x : ℕ). eqb (x / 2 ^ (i % 8) % 2) 1) (get_or-take k xs (i / 8) 0 (omega arith)))

-- whole bytes and the rows of the byte after them; the rows that neither counts are null
pub rows_counted : (xs : List ℕ) (rows valid part : ℕ) → rows / 8 ≤ length xs
    → valid ≡ valid_in (take (rows / 8) xs) (8 * length (take (rows / 8) xs))
    → part ≡ get_or xs (rows / 8) 0 % 2 ^ (rows % 8)
    → (valid + ones part ≤ rows) × (count_by not (map (valid_at xs) (range_with_len 0 rows)) + (valid + ones part) ≡ rows)
rows_counted xs rows valid part h e p =
    let place : 8 * (rows / 8) + rows % 8 ≡ rows = omega arith in
    let all : valid_in xs rows ≡ valid + ones part =
    omega (
      arith,
      ap (valid_in xs) place,
      valid_part xs (rows / 8) (rows % 8) (omega arith),
      ap (λ (x : ℕ). valid_in (take (rows / 8) xs) (8 * x)) (length-take-le (rows / 8) xs h),
      valid_front xs (rows / 8) (8 * (rows / 8)) (omega arith),
      ap ones p,
    ) in
    (omega (arith, valid_in_le xs rows), omega (arith, nulls_are xs rows))

-- ---- bytes read as one number, lowest first
bytes_up_to : List ℕ → ℕ → ℕ
bytes_up_to bs k = sum_through (λ i. byte_worth i (get_or bs i 0)) k

pow_of_byte : (k : ℕ) → 256 ^ k ≡ 2 ^ (8 * k)
pow_of_byte zero = refl
pow_of_byte (suc k) =
    let e : 8 * suc k ≡ 8 * k + 8 = omega arith in
    omega (arith, pow-suc 256 k, ap (λ (x : ℕ). 2 ^ x) e, pow-add 2 (8 * k) 8, pow_of_byte k)

bytes_up_to_lt : (bs : List ℕ) (fits : (i : ℕ) → get_or bs i 0 < 256) (k : ℕ) → bytes_up_to bs k < 2 ^ (8 * suc k)
unfolding bytes_up_to
bytes_up_to_lt bs fits zero = fits 0
bytes_up_to_lt bs fits (suc k) =
    let e : 8 * suc (suc k) ≡ 8 * suc k + 8 = omega arith in
    let last = fits (suc k) in
    let most : get_or bs (suc k) 0 * 256 ^ suc k ≤ 255 * 256 ^ suc k = mul-le-mul_right (256 ^ suc k) (omega arith) in
    omega (arith, pow_of_byte (suc k), ap (λ (x : ℕ). 2 ^ x) e, pow-add 2 (8 * suc k) 8, bytes_up_to_lt bs fits k)

ones_up_to : (bs : List ℕ) (fits : (i : ℕ) → get_or bs i 0 < 256) (k : ℕ) → k < length bs → ones (bytes_up_to bs k) ≡ sum_by ones (take (suc k) bs)
unfolding bytes_up_to
ones_up_to bs fits zero h = omega (arith, sum_by_more ones bs 0 0 h)
ones_up_to bs fits (suc k) h =
    let low = bytes_up_to_lt bs fits k in
    let s : bytes_up_to bs k + get_or bs (suc k) 0 * 256 ^ suc k ≡ get_or bs (suc k) 0 * 2 ^ (8 * suc k) + bytes_up_to bs k =
    omega (arith, ap (λ (x : ℕ). get_or bs (suc k) 0 * x) (pow_of_byte (suc k))) in
    omega (
      arith,
      ap ones s,
      ones_cat (8 * suc k) (get_or bs (suc k) 0) (bytes_up_to bs k) low,
      sum_by_more ones bs (suc k) 0 h,
      ap (λ (x : ℕ). sum_by ones (take x bs)) (add-one (suc k)),
      ones_up_to bs fits k (omega arith),
    )

pub ones_of_word : (bs : List ℕ) → length bs ≡ 8 → ((i : ℕ) → get_or bs i 0 < 256) → ones (from_le_bytes w64 bs) ≡ sum_by ones bs
unfolding bytes_up_to
ones_of_word bs size fits = ones_up_to bs fits 7 (omega arith) ∙ ap (sum_by ones) (take_all 8 bs (omega arith))

-- a sum over the chunks at the front is the sum over what they cover
pub sum_by_first_chunks : (f : ℕ → ℕ) (n k : ℕ) (xs : List ℕ) → sum_by (sum_by f) (first_chunks n k xs) ≡ sum_by f (take (k * n) xs)
sum_by_first_chunks f n zero xs = let none : zero * n ≡ zero = omega arith in ap (λ (x : ℕ). sum_by f (take x xs)) (sym none)
sum_by_first_chunks f n (suc k) xs =
    let size : suc k * n ≡ n + k * n = omega arith in
    let front : take n (take (n + k * n) xs) ≡ take n xs = take-take n (n + k * n) xs (omega arith) in
    omega (
      arith,
      sum_by-cons (sum_by f) (take n xs) (first_chunks n k (drop n xs)),
      sum_by_first_chunks f n k (drop n xs),
      ap (λ (x : ℕ). sum_by f (take x xs)) size,
      ap (sum_by f) (take-append-drop n (take (n + k * n) xs)),
      sum_by-append f (take n (take (n + k * n) xs)) (drop n (take (n + k * n) xs)),
      ap (sum_by f) front,
      ap (sum_by f) (drop-take n (k * n) xs),
    )

-- the rows of bytes, most of which are taken eight at a time; they are at most all rows
pub words_and_rest : (xs rest : List ℕ) (words : List (List ℕ)) → words ≡ first_chunks 8 (length xs / 8) xs → rest ≡ drop (length xs / 8 * 8) xs → ((i : ℕ) → get_or xs i 0 < 256)
    → (valid_in xs (8 * length xs) ≡ sum_by (sum_by ones) words + sum_by ones rest) × (valid_in xs (8 * length xs) ≤ 8 * length xs)
words_and_rest xs rest words front back fits =
    let all = valid_bytes xs (length xs) (omega arith) fits in (
      omega (
        arith,
        ap (sum_by ones) (take_all (length xs) xs (omega arith)),
        ap (sum_by (sum_by ones)) front,
        ap (sum_by ones) back,
        sum_by_first_chunks ones 8 (length xs / 8) xs,
        sum_by-take-drop ones xs (length xs / 8 * 8),
      ),
      valid_in_le xs (8 * length xs),
    )
