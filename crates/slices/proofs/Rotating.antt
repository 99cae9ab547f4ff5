-- What a rotation by one of a part of a slice leaves, where one value of the part was written first.
use Rattle.std.proofs.Common.{◌≡◌, ℕ, suc, ◌+◌, ◌-◌, ◌<◌, ◌≤◌, List, [], ◌∷◌, ◌++◌, length, take, drop, set, sym, ap, ◌∙◌, add-one, arith}
use borrow.Rule.Slice.PartMut.{put_mid}
use Rattle.std.specs.List.{insert, remove}
use Rattle.std.proofs.lemmas.List.{append_assoc, drop_at, length-drop, length_push, length-take-le, set-append_left, set_split, take-append-drop, take_at}
use Rattle.std.proofs.lemmas.List.Edits.{length-insert, length-remove}
use Rattle.slices.specs.Shifts.{with_value, without_value}

-- a slice in three parts, and others in the place of the middle one
module _ {X : Type 0} (front middle behind s : List X) (at k : ℕ) (from : length front ≡ at) (long : length middle ≡ k) (is : s ≡ front ++ (middle ++ behind)) where
  part : take k (drop at s) ≡ middle
  part = ap (λ l. take k (drop at l)) is ∙ ap (take k) (drop_at front (middle ++ behind) at from) ∙ take_at middle behind k long

  replaced : (r : List X) → put_mid at k s r ≡ front ++ (r ++ behind)
  replaced r =
      ap (λ l. put_mid at k l r) is
      ∙ ap (λ l. l ++ (r ++ drop k (drop at (front ++ (middle ++ behind))))) (take_at front (middle ++ behind) at from)
      ∙ ap (λ l. front ++ (r ++ l)) (ap (drop k) (drop_at front (middle ++ behind) at from) ∙ drop_at middle behind k long)

-- a value written behind the held ones, and the part from its place on, up to the value, rotated to the right
module _ {X : Type 0} (s p r : List X) (held at end : ℕ) (x : X) (le : at ≤ held) (lt : held < length s) (written : p ≡ set s held x) (past : end ≡ held + 1) where
  abbrev lower : List X
  lower = take at (take held s)

  abbrev upper : List X
  upper = drop at (take held s)

  parts : p ≡ lower ++ ((upper ++ x ∷ []) ++ drop (held + 1) s)
  parts =
      written ∙ set_split s held x lt ∙ ap (λ l. l ++ x ∷ drop (suc held) s) (sym (take-append-drop at (take held s)))
      ∙ append_assoc lower upper (x ∷ drop (suc held) s) ∙ ap (λ k. lower ++ (upper ++ x ∷ drop k s)) (sym (add-one held))
      ∙ ap (λ l. lower ++ l) (sym (append_assoc upper (x ∷ []) (drop (held + 1) s)))

  all_held : length (take held s) ≡ held
  all_held = length-take-le held s (omega arith)

  length_lower : length lower ≡ at
  length_lower = let n = all_held in length-take-le at (take held s) (omega arith)

  length_part : length (upper ++ x ∷ []) ≡ end - at
  length_part = let n = all_held in omega (arith, length_push upper x, length-drop at (take held s))

  pub insertion : r ≡ drop (length (take (end - at) (drop at p)) - 1) (take (end - at) (drop at p)) ++ take (length (take (end - at) (drop at p)) - 1) (take (end - at) (drop at p))
      → put_mid at (end - at) p r ≡ with_value s held at x
  insertion rotated =
      let last : length upper ≡ length (upper ++ x ∷ []) - 1 = omega (arith, length_push upper x) in
      let r_is : r ≡ x ∷ upper =
      rotated ∙ ap (λ l. drop (length l - 1) l ++ take (length l - 1) l) (part lower (upper ++ x ∷ []) (drop (held + 1) s) p at (end - at) length_lower length_part parts)
      ∙ ap (λ l. l ++ take (length (upper ++ x ∷ []) - 1) (upper ++ x ∷ [])) (drop_at upper (x ∷ []) (length (upper ++ x ∷ []) - 1) last)
      ∙ ap (λ l. x ∷ l) (take_at upper (x ∷ []) (length (upper ++ x ∷ []) - 1) last) in
      replaced lower (upper ++ x ∷ []) (drop (held + 1) s) p at (end - at) length_lower length_part parts r
      ∙ ap (λ l. lower ++ (l ++ drop (held + 1) s)) r_is ∙ sym (append_assoc lower (x ∷ upper) (drop (held + 1) s))

-- a value written over the one that goes, and the part from its place on rotated to the left
module _ {X : Type 0} (s r : List X) (held at : ℕ) (x : X) (lt : at < held) (le : held ≤ length s) where
  abbrev before : List X
  before = take at (take held s)

  abbrev after : List X
  after = drop (suc at) (take held s)

  all_old : length (take held s) ≡ held
  all_old = length-take-le held s le

  parts_old : set s at x ≡ before ++ ((x ∷ after) ++ drop held s)
  parts_old =
      let n = all_old in
      ap (λ l. set l at x) (sym (take-append-drop held s)) ∙ set-append_left (take held s) (drop held s) at x (omega arith)
      ∙ ap (λ l. l ++ drop held s) (set_split (take held s) at x (omega arith)) ∙ append_assoc before (x ∷ after) (drop held s)

  length_before : length before ≡ at
  length_before = let n = all_old in length-take-le at (take held s) (omega arith)

  length_after : length (x ∷ after) ≡ held - at
  length_after = let n = all_old in omega (arith, length-drop (suc at) (take held s))

  pub removal : r ≡ drop 1 (take (held - at) (drop at (set s at x))) ++ take 1 (take (held - at) (drop at (set s at x))) → put_mid at (held - at) (set s at x) r ≡ without_value s held at x
  removal rotated =
      let r_is : r ≡ after ++ x ∷ [] =
      rotated ∙ ap (λ l. drop 1 l ++ take 1 l) (part before (x ∷ after) (drop held s) (set s at x) at (held - at) length_before length_after parts_old) in
      replaced before (x ∷ after) (drop held s) (set s at x) at (held - at) length_before length_after parts_old r
      ∙ ap (λ l. before ++ (l ++ drop held s)) r_is ∙ ap (λ l. before ++ l) (append_assoc after (x ∷ []) (drop held s))
      ∙ sym (append_assoc before after (x ∷ drop held s))

-- what the slice then holds at its front
pub values_inserted : {X : Type 0} (s ys : List X) (held at end : ℕ) (x : X) → at ≤ held → held < length s → end ≡ held + 1 → ys ≡ with_value s held at x → take end ys ≡ insert (take held s) at x
values_inserted s ys held at end x le lt past is =
    let n = length-take-le held s (omega arith) in
    ap (take end) is ∙ take_at (insert (take held s) at x) (drop (held + 1) s) end (omega (arith, length-insert (take held s) at x (omega arith)))

pub values_removed : {X : Type 0} (s ys : List X) (held at : ℕ) (x : X) → at < held → held ≤ length s → ys ≡ without_value s held at x → take (held - 1) ys ≡ remove (take held s) at
values_removed s ys held at x lt le is =
    let n = length-take-le held s le in
    ap (take (held - 1)) is ∙ take_at (remove (take held s) at) (x ∷ drop held s) (held - 1) (omega (arith, length-remove (take held s) at (omega arith)))
