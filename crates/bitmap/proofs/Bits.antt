-- The bits of a byte: of a packed one, and of one under a mask.
use Rattle.std.proofs.Common.{◌≡◌, ℕ, zero, suc, ◌+◌, ◌-◌, ◌*◌, ◌/◌, ◌%◌, ◌^◌, ◌<◌, ◌≤◌, min, Bool, true, false, cond, ◌&&◌, eqb, ◌⊎◌, List, get_or, sym, refl, ap, ◌∙◌, inl, inr, mod-lt, pow-suc, one-add, arith}
use lib.Bits.{bit_and}
use Rattle.std.proofs.lemmas.Nat.{mod-pow-add, one_shl, and_mask}
use Rattle.std.proofs.lemmas.Nat.Bits.{bit_at_above, bit_at_and, bit_at_cat_high, bit_at_cat_low}
use Rattle.std.proofs.lemmas.Bool.{cases_eq}
use Rattle.std.proofs.lemmas.Bool.Decides.{nat_tests}
use Rattle.bitmap.specs.Bits.{packed, valid_at}

-- a mask of j ones keeps the lowest j bits
pub masked : (b j : ℕ) → j < 8 → bit_and b (1 * 2 ^ j % 256 - 1) ≡ b % 2 ^ j
masked b j h = ap (λ (x : ℕ). bit_and b (x - 1)) (one_shl j 8 h) ∙ and_mask b j

-- the same bits make the same number
pub packed_same : (f g : ℕ → Bool) (a b n : ℕ) → ((j : ℕ) → j < n → f (a + j) ≡ g (b + j)) → packed f a n ≡ packed g b n
packed_same f g a b zero h = refl
packed_same f g a b (suc n) h =
    omega (arith, packed_same f g a b n (λ j l. h j (omega arith)), ap (λ (x : Bool). cond {A = ℕ} x (2 ^ n) 0) (h n (omega arith)))

pub packed_lt : (f : ℕ → Bool) (start n : ℕ) → packed f start n < 2 ^ n
packed_lt f start zero = omega arith
packed_lt f start (suc n) = go (f (start + n)) (packed_lt f start n)
  where
    go : (b : Bool) → packed f start n < 2 ^ n → packed f start n + cond b (2 ^ n) 0 < 2 ^ suc n
    go true h = omega (arith, pow-suc 2 n)
    go false h = omega (arith, pow-suc 2 n)

-- the bit that is packed last stands before those below it
on_top : (low n : ℕ) (b : Bool) → low + cond b (2 ^ n) 0 ≡ cond b 1 0 * 2 ^ n + low
on_top low n true = omega arith
on_top low n false = omega arith

one_bit : (b : Bool) → eqb (cond b 1 0 / 2 ^ 0 % 2) 1 ≡ b
one_bit true = refl
one_bit false = refl

-- bit j of a packed number is what was packed there
pub packed_bit : (f : ℕ → Bool) (start n j : ℕ) → j < n → eqb (packed f start n / 2 ^ j % 2) 1 ≡ f (start + j)
packed_bit f start zero j h = absurd (omega arith)
packed_bit f start (suc n) j h = ap (λ (x : ℕ). eqb (x / 2 ^ j % 2) 1) (on_top (packed f start n) n (f (start + n))) ∙ go (cases_eq j n) (packed_bit f start n j)
  where
    go : (j ≡ n) ⊎ (j ≡ n → ⊥) → (j < n → eqb (packed f start n / 2 ^ j % 2) 1 ≡ f (start + j))
        → eqb ((cond (f (start + n)) 1 0 * 2 ^ n + packed f start n) / 2 ^ j % 2) 1 ≡ f (start + j)
    go (inl e) _ =
        let none : j - n ≡ 0 = omega arith in
        ap (λ (x : ℕ). eqb x 1) (bit_at_cat_high (cond (f (start + n)) 1 0) n (packed f start n) j (packed_lt f start n) (omega arith))
        ∙ ap (λ (x : ℕ). eqb (cond (f (start + n)) 1 0 / 2 ^ x % 2) 1) none ∙ one_bit (f (start + n)) ∙ ap (λ (x : ℕ). f (start + x)) (sym e)
    go (inr ne) below =
        ap (λ (x : ℕ). eqb x 1) (bit_at_cat_low (cond (f (start + n)) 1 0) n (packed f start n) j (omega arith)) ∙ below (omega arith)

-- above them its bits are zero
pub packed_spare : (f : ℕ → Bool) (start n j : ℕ) → n ≤ j → eqb (packed f start n / 2 ^ j % 2) 1 ≡ false
packed_spare f start n j h = ap (λ (x : ℕ). eqb x 1) (bit_at_above (packed f start n) n j (packed_lt f start n) h)

-- whether two bits are both set
both_bits : (s t p : ℕ) → s < 2 → t < 2 → ◌≡◌ {A = ℕ} (cond (eqb s 1 && eqb t 1) p 0) (min s t * p)
both_bits s t p h k = grind (arith, nat_tests)

-- the first j rows of byte k that two maps both call valid are the lowest j bits that both bytes have
pub packed_both : (xs ys : List ℕ) (k j : ℕ) → j ≤ 8
    → packed (λ i. valid_at xs i && valid_at ys i) (8 * k) j ≡ bit_and (get_or xs k 0) (get_or ys k 0) % 2 ^ j
packed_both xs ys k zero h = omega arith
packed_both xs ys k (suc j) h =
    let x = get_or xs k 0 in
    let y = get_or ys k 0 in
    let d : (8 * k + j) / 8 ≡ k = omega arith in
    let m : (8 * k + j) % 8 ≡ j = omega arith in
    let v : ◌≡◌ {A = ℕ} (cond (valid_at xs (8 * k + j) && valid_at ys (8 * k + j)) (2 ^ j) 0) (cond (eqb (x / 2 ^ j % 2) 1 && eqb (y / 2 ^ j % 2) 1) (2 ^ j) 0) =
    rw (d, m) in
    let b = both_bits (x / 2 ^ j % 2) (y / 2 ^ j % 2) (2 ^ j) (mod-lt _ (omega arith)) (mod-lt _ (omega arith)) in
    omega (
      arith,
      ap (λ (z : ℕ). bit_and x y % 2 ^ z) (one-add j),
      mod-pow-add (bit_and x y) 1 j,
      ap (λ (z : ℕ). z * 2 ^ j) (bit_at_and x y j),
      packed_both xs ys k j (omega arith),
    )
