-- A loop that appends to a vector over a lent slice.
use Rattle.std.proofs.Common.{◌≡◌, ℕ, ◌+◌, ◌-◌, ◌≤◌, List, [], ◌++◌, length, drop, sym, ap, ◌∙◌, arith}
use Rattle.std.proofs.lemmas.List.{append-nil, append_assoc, drop-drop, length-append, length-drop, length-take-le}
use Rattle.slices.specs.declared.slice_vec.SliceVec.{SliceVec}
use Rattle.slices.specs.Vecs.{places, slice_vec_len, spare_places, values, KeepsSlice}

pub length_values : {X : Type 0} (v : SliceVec X) → length (values v) ≡ slice_vec_len v
length_values v = length-take-le v.len v.slots.now v.within

-- with what is still to come, the values are those that were there and all that come; past them the slice is as it was
pub record Appending {X : Type 0} (before now : SliceVec X) (all left : List X) : Type 0 where
  pub same_slice : KeepsSlice before now
  pub held : values now ++ left ≡ values before ++ all
  pub spare : spare_places now ≡ drop (slice_vec_len now) (places before)

past : {X : Type 0} (xs : List X) (m k n : ℕ) → m + k ≡ n → drop k (drop m xs) ≡ drop n xs
past xs m k n e = drop-drop k m xs ∙ ap (λ (i : ℕ). drop i xs) e

module _ {X : Type 0} {before now : SliceVec X} {all left : List X} (a : Appending before now all left) where
  -- there is a place for each that is still to come
  pub has_room : slice_vec_len before + length all ≤ length (places before) → slice_vec_len now + length left ≤ length (places now)
  has_room room =
      let within = now.within in
      omega (
        arith,
        length_values now,
        length_values before,
        simp length-append at (ap length a.held),
        simp length-drop at (ap length a.spare),
      )

  -- some of what was to come was appended
  pub appended : (after : SliceVec X) (some rest : List X) → left ≡ some ++ rest → KeepsSlice now after → values after ≡ values now ++ some → spare_places after ≡ drop (slice_vec_len after) (places now)
      → Appending before after all rest
  appended after some rest parts keeps held spare = record {
    same_slice = keeps ∙ a.same_slice;
    held = ap (λ xs. xs ++ rest) held ∙ append_assoc (values now) some rest ∙ ap (λ xs. values now ++ xs) (sym parts) ∙ a.held;
    spare =
        let more : slice_vec_len now + (slice_vec_len after - slice_vec_len now) ≡ slice_vec_len after =
        omega (arith, length_values now, length_values after, simp length-append at (ap length held)) in
        spare ∙ sym (past (places now) _ _ _ more) ∙ ap (drop (slice_vec_len after - slice_vec_len now)) a.spare ∙ past (places before) _ _ _ more;
  }

  pub all_appended : left ≡ [] → values now ≡ values before ++ all
  all_appended none = sym (append-nil (values now)) ∙ ap (λ xs. values now ++ xs) (sym none) ∙ a.held

pub length_appended : {X : Type 0} (before now : SliceVec X) (all : List X) → values now ≡ values before ++ all → slice_vec_len now ≡ slice_vec_len before + length all
length_appended before now all held = omega (arith, length_values now, length_values before, simp length-append at (ap length held))
