-- Which value of a ring stands where.
use Rattle.std.proofs.Common.{◌≡◌, ℕ, ◌+◌, ◌-◌, ◌<◌, ◌≤◌, cond, ltb, ◌≢◌, List, ◌++◌, length, get_or, take, drop, sym, ap, ◌∙◌, ⊎_elim, arith}
use Rattle.std.proofs.lemmas.List.{get_or-take, get_or-drop, get_or_append_left, get_or-append_right, length-append, length-take, length-drop}
use Rattle.std.proofs.lemmas.Bool.{cases_lt}
use Rattle.slices.specs.Rings.{live, place_at}
use Rattle.slices.proofs.Turning.{place_near, place_far}

module _ {X : Type 0} (slots : List X) (start : ℕ) (within : start < length slots) where
  pub length_live : (n : ℕ) → n ≤ length slots → length (live start n slots) ≡ n
  length_live n h =
      let t = length-take n (drop start slots ++ take start slots) in
      let a = length-append (drop start slots) (take start slots) in
      let b = length-drop start slots in
      let c = length-take start slots in
      omega arith

  pub get_or_live : (n k : ℕ) (d : X) → n ≤ length slots → k < n → get_or (live start n slots) k d ≡ get_or slots (place_at (length slots) start k) d
  get_or_live n k d h l =
      ⊎_elim
      (λ near.
      get_or-take n (drop start slots ++ take start slots) k d l
      ∙ get_or_append_left (drop start slots) (take start slots) d k (let b = length-drop start slots in omega arith)
      ∙ get_or-drop start slots k d ∙ ap (λ (p : ℕ). get_or slots p d) (sym (place_near (length slots) start k near)))
      (λ far.
      let e : k - (length slots - start) ≡ start + k - length slots = omega arith in
      get_or-take n (drop start slots ++ take start slots) k d l
      ∙ get_or-append_right (drop start slots) (take start slots) (length slots - start) k d (length-drop start slots) (omega arith)
      ∙ get_or-take start slots (k - (length slots - start)) d (omega arith)
      ∙ ap (λ (p : ℕ). get_or slots p d) (e ∙ sym (place_far (length slots) start k far)))
      (cases_lt (start + k) (length slots))

  pub place_lt : (k : ℕ) → k ≤ length slots → place_at (length slots) start k < length slots
  place_lt k h =
      ⊎_elim (λ near. let e = place_near (length slots) start k near in omega arith) (λ far. let e = place_far (length slots) start k far in omega arith) (cases_lt (start + k) (length slots))

  -- places of different values differ
  pub place_apart : (j k : ℕ) → j < k → k < length slots → place_at (length slots) start j ≢ place_at (length slots) start k
  place_apart j k h l same = ⊎_elim low high (cases_lt (start + j) (length slots))
    where
      low : start + j < length slots → ⊥
      low a =
          let p = place_near (length slots) start j a in
          ⊎_elim (λ b. let q = place_near (length slots) start k b in omega arith) (λ b. let q = place_far (length slots) start k b in omega arith) (cases_lt (start + k) (length slots))

      high : length slots ≤ start + j → ⊥
      high a =
          let p = place_far (length slots) start j a in
          let q = place_far (length slots) start k (omega arith) in
          omega arith

  -- to go on from where k places on leads
  pub place_on : (k j : ℕ) → k + j < length slots → place_at (length slots) (place_at (length slots) start k) j ≡ place_at (length slots) start (k + j)
  place_on k j h = ⊎_elim near far (cases_lt (start + k) (length slots))
    where
      near : start + k < length slots → place_at (length slots) (place_at (length slots) start k) j ≡ place_at (length slots) start (k + j)
      near a =
          let e : start + k + j ≡ start + (k + j) = omega arith in
          ap (λ (x : ℕ). place_at (length slots) x j) (place_near (length slots) start k a) ∙ ap (λ (x : ℕ). cond (ltb x (length slots)) x (x - length slots)) e

      far : length slots ≤ start + k → place_at (length slots) (place_at (length slots) start k) j ≡ place_at (length slots) start (k + j)
      far a =
          let e : start + k - length slots + j ≡ start + (k + j) - length slots = omega arith in
          ap (λ (x : ℕ). place_at (length slots) x j) (place_far (length slots) start k a)
          ∙ place_near (length slots) (start + k - length slots) j (omega arith) ∙ e ∙ sym (place_far (length slots) start (k + j) (omega arith))
