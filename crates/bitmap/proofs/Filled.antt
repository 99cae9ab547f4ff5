-- A buffer that is filled byte by byte from its start, and the map that stands in it at the end.
use Rattle.std.proofs.Common.{◌≡◌, ℕ, ◌+◌, ◌-◌, ◌*◌, ◌/◌, ◌%◌, ◌^◌, ◌<◌, ◌≤◌, min, Bool, eqb, List, [], ◌∷◌, ◌++◌, map, length, get_or, take, drop, set, sym, ap, ◌∙◌, arith}
use Rattle.std.proofs.lemmas.List.{append-nil, append_assoc, drop_all, drop_more, get_or_append_left, length-take-le, set_at}
use Rattle.std.proofs.lemmas.List.FromFn.{get_or-map-range_with_len, length-map-range_with_len, map-range_with_len_more}
use Rattle.std.specs.List.{range_with_len}
use Rattle.bitmap.specs.Bits.{bytes_for, packed, valid_at}
use Rattle.bitmap.specs.Maps.{MapWritten}
use Rattle.bitmap.proofs.Bits.{packed_bit, packed_spare}

-- byte k of the map of so many rows
abbrev pub byte_of : (ℕ → Bool) → ℕ → ℕ → ℕ
byte_of f rows k = packed f (8 * k) (min 8 (rows - 8 * k))

-- the first n bytes of that map
abbrev front : (ℕ → Bool) → ℕ → ℕ → List ℕ
front f rows n = map (byte_of f rows) (range_with_len 0 n)

-- a buffer whose first n bytes are those of the map, and whose others are as they were
abbrev pub filled : (ℕ → Bool) → ℕ → ℕ → List ℕ → List ℕ
filled f rows n before = front f rows n ++ drop n before

-- the next byte is written
pub filled_more : (f : ℕ → Bool) (rows n byte : ℕ) (before out : List ℕ) → n < length before → out ≡ filled f rows n before → byte ≡ byte_of f rows n
    → set out n byte ≡ filled f rows (n + 1) before
filled_more f rows n byte before out h e b =
    ap (λ (x : List ℕ). set x n byte) (e ∙ ap (λ (x : List ℕ). front f rows n ++ x) (drop_more before n 0 h))
    ∙ set_at (front f rows n) (get_or before n 0) (drop (n + 1) before) byte n (length-map-range_with_len (byte_of f rows) 0 n)
    ∙ ap (λ (x : ℕ). front f rows n ++ x ∷ drop (n + 1) before) b
    ∙ sym (append_assoc (front f rows n) (byte_of f rows n ∷ []) (drop (n + 1) before))
    ∙ ap (λ (x : List ℕ). x ++ drop (n + 1) before) (sym (map-range_with_len_more (byte_of f rows) 0 n n (omega arith)))

-- a front that is filled, beside the rest of the buffer
pub filled_front : (f : ℕ → Bool) (rows k n : ℕ) (before items : List ℕ) → n ≤ length before → k ≡ n → items ≡ filled f rows k (take n before) → items ++ drop n before ≡ filled f rows n before
filled_front f rows k n before items h all e =
    let none : drop n (take n before) ≡ [] = drop_all n (take n before) (omega (arith, length-take-le n before h)) in
    ap (λ (x : List ℕ). x ++ drop n before)
    (e ∙ ap (λ (x : ℕ). filled f rows x (take n before)) all ∙ ap (λ (x : List ℕ). front f rows n ++ x) none ∙ append-nil (front f rows n))

-- a buffer that is filled with all bytes of a map holds the map
pub filled_all : (f : ℕ → Bool) (rows n : ℕ) (before after : List ℕ) → n ≡ bytes_for rows → after ≡ filled f rows n before → MapWritten f rows before after
filled_all f rows n before after all e = record {
  reads = λ i h.
      let inside : i % 8 < min 8 (rows - 8 * (i / 8)) = omega arith in
      let place : 8 * (i / 8) + i % 8 ≡ i = omega arith in
      bit i (omega arith) ∙ packed_bit f (8 * (i / 8)) (min 8 (rows - 8 * (i / 8))) (i % 8) inside ∙ ap f place;
  spare = λ i past h. bit i (omega arith) ∙ packed_spare f (8 * (i / 8)) (min 8 (rows - 8 * (i / 8))) (i % 8) (omega arith);
  bytes = e ∙ ap (λ (x : ℕ). filled f rows x before) all;
}
  where
    byte : (k : ℕ) → k < n → get_or (filled f rows n before) k 0 ≡ byte_of f rows k
    byte k h =
        let size = length-map-range_with_len (byte_of f rows) 0 n in
        get_or_append_left (front f rows n) (drop n before) 0 k (omega arith) ∙ get_or-map-range_with_len (byte_of f rows) 0 n k k 0 h (omega arith)

    bit : (i : ℕ) → i / 8 < n → valid_at after i ≡ eqb (byte_of f rows (i / 8) / 2 ^ (i % 8) % 2) 1
    bit i h = ap (λ (x : List ℕ). valid_at x i) e ∙ ap (λ (x : ℕ). eqb (x / 2 ^ (i % 8) % 2) 1) (byte (i / 8) h)
