-- A map that is cleared and then marked bit by bit holds what its bits say.
use Rattle.std.proofs.Common.{◌≡◌, ℕ, zero, suc, ◌+◌, ◌-◌, ◌*◌, ◌/◌, ◌%◌, ◌^◌, ◌<◌, ◌≤◌, min, Bool, true, false, cond, eqb, ◌≢◌, ◌⊎◌, List, ◌++◌, length, get_or, drop, set, replicate, sym, refl, ap, ◌∙◌, inl, inr, ⊎_elim, add-zero, mod-lt, mod-eq_of_lt, pow-suc, one-add, arith}
use native.Mathlib.Nat.{div-eq_of_lt, zero-div}
use lib.Bits.{bit_or, or_zero_r}
use Rattle.std.proofs.lemmas.Nat.{mod-pow-add, one_shl, or_lt, or_mod, or_shr, pow-add, pow_below, shl-shr}
use Rattle.std.proofs.lemmas.List.{drop_at, same_lists, length-append, length-drop, get_or-drop, get_or_append_left, get_or-append_right, get_or-replicate, length-replicate, get_or-set_same, get_or-set_other, get_or_default}
use Rattle.std.proofs.lemmas.List.FromFn.{length-map-range_with_len, get_or-map-range_with_len}
use Rattle.std.proofs.lemmas.Bool.{cases_eq, cases_lt, cases_order}
use Rattle.bitmap.specs.Bits.{bytes_for, packed, valid_at, map_of}
use Rattle.bitmap.specs.Maps.{MapWritten}
use Rattle.bitmap.proofs.Filled.{byte_of}
use Rattle.emit.specs.Marks.{Clear, Marked}

bit_value : (t p : ℕ) → t < 2 → ◌≡◌ {A = ℕ} (cond (eqb t 1) p 0) (t * p)
bit_value zero p h = omega arith
bit_value (suc zero) p h = omega arith
bit_value (suc (suc t)) p h = absurd (omega arith)

-- the lowest j bits of byte k are the rows of the map from 8 * k on
packed_valid : (xs : List ℕ) (k j : ℕ) → j ≤ 8 → packed (valid_at xs) (8 * k) j ≡ get_or xs k 0 % 2 ^ j
packed_valid xs k zero h = omega arith
packed_valid xs k (suc j) h =
    let d : (8 * k + j) / 8 ≡ k = omega arith in
    let m : (8 * k + j) % 8 ≡ j = omega arith in
    let v : ◌≡◌ {A = ℕ} (cond (valid_at xs (8 * k + j)) (2 ^ j) 0) (cond (eqb (get_or xs k 0 / 2 ^ j % 2) 1) (2 ^ j) 0) = rw (d, m) in
    let b = bit_value (get_or xs k 0 / 2 ^ j % 2) (2 ^ j) (mod-lt _ (omega arith)) in
    let s : get_or xs k 0 % 2 ^ suc j ≡ get_or xs k 0 / 2 ^ j % 2 * 2 ^ j + get_or xs k 0 % 2 ^ j =
    ap (λ (x : ℕ). get_or xs k 0 % 2 ^ x) (sym (one-add j)) ∙ mod-pow-add (get_or xs k 0) 1 j in
    omega (arith, packed_valid xs k j (omega arith))

packed_same : (f g : ℕ → Bool) (s n : ℕ) → ((j : ℕ) → j < n → f (s + j) ≡ g (s + j)) → packed f s n ≡ packed g s n
packed_same f g s zero h = refl
packed_same f g s (suc n) h =
    ap (λ (x : ℕ). x + cond (f (s + n)) (2 ^ n) 0) (packed_same f g s n (λ j l. h j (omega arith)))
    ∙ ap (λ (b : Bool). packed g s n + cond b (2 ^ n) 0) (h n (omega arith))

-- rows that are not valid add nothing
packed_front : (f : ℕ → Bool) (s n m : ℕ) → ((j : ℕ) → n ≤ j → j < n + m → f (s + j) ≡ false) → packed f s (n + m) ≡ packed f s n
packed_front f s n zero h = ap (packed f s) (add-zero n)
packed_front f s n (suc m) h =
    let e : n + suc m ≡ suc (n + m) = omega arith in
    ap (packed f s) e ∙ ap (λ (b : Bool). packed f s (n + m) + cond b (2 ^ (n + m)) 0) (h (n + m) (omega arith) (omega arith)) ∙ add-zero _
    ∙ packed_front f s n m (λ j l u. h j l (omega arith))

byte_packed : (xs : List ℕ) (k : ℕ) → get_or xs k 0 < 256 → get_or xs k 0 ≡ packed (valid_at xs) (8 * k) 8
byte_packed xs k h = sym (packed_valid xs k 8 (omega arith) ∙ mod-eq_of_lt h)

-- the bytes of a map of so many rows are bytes, and those past it are as they were
pub record Within (rows : ℕ) (before after : List ℕ) : Type 0 where
  pub small : (k : ℕ) → k < bytes_for rows → get_or after k 0 < 256
  pub past : (k : ℕ) → bytes_for rows ≤ k → get_or after k 0 ≡ get_or before k 0

pub within_more : (b : Bool) (i rows : ℕ) (before now next : List ℕ) → i < rows → Within rows before now → Marked b i now next → Within rows before next
within_more b i rows before now next h w m = record {
  small = λ k l. ⊎_elim (λ e. omega (arith, m.byte, ap (λ (x : ℕ). get_or next x 0) e)) (λ ne. omega (arith, m.bytes k ne, w.small k l)) (cases_eq k (i / 8));
  past = λ k l. m.bytes k (λ e. omega arith) ∙ w.past k l;
}

-- bytes whose bits are those of a map, with no spare bit set, hold the map
pub written_bits : (f : ℕ → Bool) (rows : ℕ) (before after : List ℕ) → length after ≡ length before → bytes_for rows ≤ length before → Within rows before after
    → ((i : ℕ) → i < rows → valid_at after i ≡ f i) → ((i : ℕ) → rows ≤ i → i < 8 * bytes_for rows → valid_at after i ≡ false)
    → MapWritten f rows before after
written_bits f rows before after long room w reads spare = record {
  reads = reads;
  spare = spare;
  bytes =
      same_lists after (map_of f rows ++ drop (bytes_for rows) before)
      (omega (arith, length-append (map_of f rows) (drop (bytes_for rows) before), length-drop (bytes_for rows) before, size))
      (λ k d h. ⊎_elim (inside k d h) (outside k d h) (cases_lt k (bytes_for rows)));
}
  where
    size : length (map_of f rows) ≡ bytes_for rows
    size = length-map-range_with_len (byte_of f rows) 0 (bytes_for rows)

    inside : (k d : ℕ) → k < length after → k < bytes_for rows → get_or after k d ≡ get_or (map_of f rows ++ drop (bytes_for rows) before) k d
    inside k d h lt =
        let all : min 8 (rows - 8 * k) + (8 - min 8 (rows - 8 * k)) ≡ 8 = omega arith in
        get_or_default after k d 0 h ∙ byte_packed after k (w.small k lt)
        ∙ ap (packed (valid_at after) (8 * k)) (sym all)
        ∙ packed_front (valid_at after) (8 * k) (min 8 (rows - 8 * k)) (8 - min 8 (rows - 8 * k)) (λ j l u. spare (8 * k + j) (omega arith) (omega arith))
        ∙ packed_same (valid_at after) f (8 * k) (min 8 (rows - 8 * k)) (λ j l. reads (8 * k + j) (omega arith))
        ∙ sym (get_or_append_left (map_of f rows) (drop (bytes_for rows) before) d k (omega (arith, size)) ∙ get_or-map-range_with_len (byte_of f rows) 0 (bytes_for rows) k k d lt (omega arith))

    outside : (k d : ℕ) → k < length after → bytes_for rows ≤ k → get_or after k d ≡ get_or (map_of f rows ++ drop (bytes_for rows) before) k d
    outside k d h le =
        let back : bytes_for rows + (k - bytes_for rows) ≡ k = omega arith in
        get_or_default after k d 0 h ∙ w.past k le ∙ get_or_default before k 0 d (omega arith)
        ∙ ap (λ (x : ℕ). get_or before x d) (sym back) ∙ sym (get_or-drop (bytes_for rows) before (k - bytes_for rows) d)
        ∙ sym (get_or-append_right (map_of f rows) (drop (bytes_for rows) before) (bytes_for rows) k d size le)

-- a map that was written over another buffer with the same bytes past it
pub written_over : (f : ℕ → Bool) (rows : ℕ) (before before₀ after : List ℕ) → MapWritten f rows before after → drop (bytes_for rows) before ≡ drop (bytes_for rows) before₀ → MapWritten f rows before₀ after
written_over f rows before before₀ after w rest = record { reads = w.reads; spare = w.spare; bytes = w.bytes ∙ ap (λ (z : List ℕ). map_of f rows ++ z) rest }

-- a map of rows that another test calls valid too
pub written_same : (f g : ℕ → Bool) (rows : ℕ) (before after : List ℕ) → MapWritten f rows before after → ((i : ℕ) → i < rows → f i ≡ g i) → MapWritten g rows before after
written_same f g rows before after w same = record {
  reads = λ i h. w.reads i h ∙ same i h;
  spare = w.spare;
  bytes = w.bytes ∙ ap (λ (z : List ℕ). z ++ drop (bytes_for rows) before) maps;
}
  where
    byte : (k : ℕ) → byte_of f rows k ≡ byte_of g rows k
    byte k = packed_same f g (8 * k) (min 8 (rows - 8 * k)) (λ j l. same (8 * k + j) (omega arith))

    maps : map_of f rows ≡ map_of g rows
    maps =
        let a = length-map-range_with_len (byte_of f rows) 0 (bytes_for rows) in
        let b = length-map-range_with_len (byte_of g rows) 0 (bytes_for rows) in
        same_lists (map_of f rows) (map_of g rows) (a ∙ sym b)
        (λ k d h. get_or-map-range_with_len (byte_of f rows) 0 (bytes_for rows) k k d (omega arith) (omega arith) ∙ byte k ∙ sym (get_or-map-range_with_len (byte_of g rows) 0 (bytes_for rows) k k d (omega arith) (omega arith)))

-- a power of two has one bit
power_bit : (p j : ℕ) → j < p ⊎ p < j → 1 * 2 ^ p / 2 ^ j % 2 ≡ 0
power_bit p j (inl h) =
    let d : p ≡ suc (p - suc j) + j = omega arith in
    let a : 1 * 2 ^ p ≡ 2 ^ suc (p - suc j) * 2 ^ j = omega (arith, ap (λ (x : ℕ). 2 ^ x) d ∙ pow-add 2 (suc (p - suc j)) j) in
    let e : 2 ^ suc (p - suc j) % 2 ≡ 0 = omega (arith, pow-suc 2 (p - suc j)) in
    ap (λ (x : ℕ). x / 2 ^ j % 2) a ∙ ap (λ (x : ℕ). x % 2) (shl-shr (2 ^ suc (p - suc j)) j) ∙ e
power_bit p j (inr h) =
    let l : 1 * 2 ^ p < 2 ^ j = omega (arith, pow_below p j h) in
    ap (λ (x : ℕ). x % 2) (div-eq_of_lt l)

or_one : (t : ℕ) → t < 2 → bit_or t 1 ≡ 1
or_one zero h = refl
or_one (suc zero) h = refl
or_one (suc (suc t)) h = absurd (omega arith)

or_bit : (b c j : ℕ) → bit_or b c / 2 ^ j % 2 ≡ bit_or (b / 2 ^ j % 2) (c / 2 ^ j % 2)
or_bit b c j = ap (λ (x : ℕ). x % 2) (or_shr b c j) ∙ or_mod (b / 2 ^ j) (c / 2 ^ j) 1

-- a byte with bit i % 8 of row i set
pub marked_or : (xs : List ℕ) (i : ℕ) → i / 8 < length xs → get_or xs (i / 8) 0 < 256 → Marked true i xs (set xs (i / 8) (bit_or (get_or xs (i / 8) 0) (1 * 2 ^ (i % 8) % 256)))
marked_or xs i h fits = record {
  here =
      ap (λ (x : ℕ). eqb (x / 2 ^ (i % 8) % 2) 1) (get_or-set_same xs (i / 8) byte 0 h ∙ ap (bit_or (get_or xs (i / 8) 0)) whole)
      ∙ ap (λ (x : ℕ). eqb x 1) (or_bit (get_or xs (i / 8) 0) (1 * 2 ^ (i % 8)) (i % 8) ∙ ap (λ (x : ℕ). bit_or (get_or xs (i / 8) 0 / 2 ^ (i % 8) % 2) (x % 2)) (shl-shr 1 (i % 8))
      ∙ or_one _ (mod-lt _ (omega arith)));
  others = λ j ne. ⊎_elim (same_byte j ne) (λ far. (let far2 : j / 8 ≢ i / 8 = far in ap (λ (x : ℕ). eqb (x / 2 ^ (j % 8) % 2) 1) (get_or-set_other xs (i / 8) (j / 8) byte 0 far2))) (cases_eq (j / 8) (i / 8));
  byte =
      omega (
        arith,
        get_or-set_same xs (i / 8) byte 0 h ∙ ap (bit_or (get_or xs (i / 8) 0)) whole,
        or_lt 8 (get_or xs (i / 8) 0) (1 * 2 ^ (i % 8)) fits (omega (arith, pow_below (i % 8) 8 (omega arith))),
      );
  bytes = λ k ne. let ne2 : k ≢ i / 8 = ne in get_or-set_other xs (i / 8) k byte 0 ne2;
}
  where
    byte : ℕ
    byte = bit_or (get_or xs (i / 8) 0) (1 * 2 ^ (i % 8) % 256)

    whole : 1 * 2 ^ (i % 8) % 256 ≡ 1 * 2 ^ (i % 8)
    whole = omega (arith, one_shl (i % 8) 8 (omega arith))

    same_byte : (j : ℕ) → (j ≡ i → ⊥) → j / 8 ≡ i / 8 → valid_at (set xs (i / 8) byte) j ≡ valid_at xs j
    same_byte j ne e =
        let apart : (j % 8 < i % 8) ⊎ (i % 8 < j % 8) = ⊎_elim (λ q. absurd (ne (omega arith))) (λ o. o) (cases_order (j % 8) (i % 8)) in
        ap (λ (x : ℕ). eqb (get_or (set xs (i / 8) byte) x 0 / 2 ^ (j % 8) % 2) 1) e
        ∙ ap (λ (x : ℕ). eqb (x / 2 ^ (j % 8) % 2) 1) (get_or-set_same xs (i / 8) byte 0 h ∙ ap (bit_or (get_or xs (i / 8) 0)) whole)
        ∙ ap (λ (x : ℕ). eqb x 1) (or_bit (get_or xs (i / 8) 0) (1 * 2 ^ (i % 8)) (j % 8) ∙ ap (bit_or (get_or xs (i / 8) 0 / 2 ^ (j % 8) % 2)) (power_bit (i % 8) (j % 8) apart) ∙ or_zero_r _)
        ∙ ap (λ (x : ℕ). eqb (get_or xs x 0 / 2 ^ (j % 8) % 2) 1) (sym e)

pub clear_rows : (rows : ℕ) (bytes : List ℕ) → Clear rows bytes → (i : ℕ) → i < 8 * bytes_for rows → valid_at bytes i ≡ false
clear_rows rows bytes h i l = ap (λ (x : ℕ). eqb (x / 2 ^ (i % 8) % 2) 1) (h (i / 8) (omega arith)) ∙ ap (λ (q : ℕ). eqb (q % 2) 1) (zero-div (2 ^ (i % 8)))

pub within_none : (rows : ℕ) (bytes : List ℕ) → Clear rows bytes → Within rows bytes bytes
within_none rows bytes h = record { small = λ k l. omega (arith, h k l); past = λ k l. refl }

-- a row of a clear map that is marked is as the mark says
pub marked_clear : (b : Bool) (i : ℕ) (before after : List ℕ) → Marked b i before after → valid_at before i ≡ false → valid_at after i ≡ b
marked_clear true i before after m h = m.here
marked_clear false i before after m h = m.here ∙ h

module _ (size : ℕ) (before after : List ℕ) (e : after ≡ replicate size 0 ++ drop size before) where
  long : length (replicate {A = ℕ} size 0) ≡ size
  long = length-replicate size 0

  -- what clearing leaves
  pub cleared_zero : (k : ℕ) → k < size → get_or after k 0 ≡ 0
  cleared_zero k h =
      ap (λ (z : List ℕ). get_or z k 0) e ∙ get_or_append_left (replicate size 0) (drop size before) 0 k (omega (arith, long)) ∙ get_or-replicate size k 0 0 h

  pub cleared_drop : drop size after ≡ drop size before
  cleared_drop = ap (drop size) e ∙ drop_at (replicate size 0) (drop size before) size long
