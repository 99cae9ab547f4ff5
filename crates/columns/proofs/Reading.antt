-- The cells of cues beside a map: how many, which stands where, and parts of them.
use Rattle.std.proofs.Common.{◌≡◌, ℕ, zero, suc, ◌+◌, ◌-◌, ◌<◌, Bool, List, [], ◌∷◌, length, get_or, take, drop, sym, refl, ap, ◌∙◌, add-zero, arith, None, false}
use Rattle.std.specs.List.{between}
use Rattle.std.specs.Bool.{then_some}
use Rattle.columns.specs.Cells.{cells_from}

module _ {K : Type 0} (f : ℕ → Bool) where
  pub length_cells : (s : ℕ) (cues : List K) → length (cells_from f s cues) ≡ length cues
  length_cells s [] = refl
  length_cells s (cue ∷ cues) = ap suc (length_cells (s + 1) cues)

  -- the cell of a cue that is there
  pub cell_read : (s : ℕ) (cues : List K) (i : ℕ) (cue : K) → i < length cues → cue ≡ get_or cues i cue → get_or (cells_from f s cues) i None ≡ then_some (f (s + i)) cue
  cell_read s [] i cue h e = absurd (omega arith)
  cell_read s (x ∷ cues) zero cue h e =
      let k : s + 0 ≡ s = add-zero s in
      ap (then_some (f s)) (sym e) ∙ ap (λ (k : ℕ). then_some (f k) cue) (sym k)
  cell_read s (x ∷ cues) (suc i) cue h e =
      let k : s + 1 + i ≡ s + suc i = omega arith in
      cell_read (s + 1) cues i cue (omega arith) e ∙ ap (λ (k : ℕ). then_some (f k) cue) k

  -- the cell of a null row
  pub cell_when_null : (s : ℕ) (cues : List K) (i : ℕ) → i < length cues → f (s + i) ≡ false → get_or (cells_from f s cues) i None ≡ None
  cell_when_null s [] i h v = absurd (omega arith)
  cell_when_null s (cue ∷ cues) zero h v = ap (λ b. then_some b cue) (ap f (sym (add-zero s)) ∙ v)
  cell_when_null s (cue ∷ cues) (suc i) h v =
      let e : s + 1 + i ≡ s + suc i = omega arith in
      cell_when_null (s + 1) cues i (omega arith) (ap f e ∙ v)

  pub take_cells : (n s : ℕ) (cues : List K) → take n (cells_from f s cues) ≡ cells_from f s (take n cues)
  take_cells zero s cues = refl
  take_cells (suc n) s [] = refl
  take_cells (suc n) s (cue ∷ cues) = ap (λ t. then_some (f s) cue ∷ t) (take_cells n (s + 1) cues)

  pub drop_cells : (n s : ℕ) (cues : List K) → drop n (cells_from f s cues) ≡ cells_from f (s + n) (drop n cues)
  drop_cells zero s cues = ap (λ (k : ℕ). cells_from f k cues) (sym (add-zero s))
  drop_cells (suc n) s [] = refl
  drop_cells (suc n) s (cue ∷ cues) =
      let e : s + 1 + n ≡ s + suc n = omega arith in
      drop_cells n (s + 1) cues ∙ ap (λ (k : ℕ). cells_from f k (drop n cues)) e

  pub between_cells : (from to : ℕ) (cues : List K) → between from to (cells_from f 0 cues) ≡ cells_from f from (between from to cues)
  between_cells from to cues =
      let e : 0 + from ≡ from = omega arith in
      ap (take (to - from)) (drop_cells from 0 cues ∙ ap (λ (k : ℕ). cells_from f k (drop from cues)) e) ∙ take_cells (to - from) from (drop from cues)

  pub cells_same : (g : ℕ → Bool) → ((i : ℕ) → f i ≡ g i) → (s : ℕ) (cues : List K) → cells_from f s cues ≡ cells_from g s cues
  cells_same g h s [] = refl
  cells_same g h s (cue ∷ cues) =
      ap (λ (b : Bool). then_some b cue ∷ cells_from f (s + 1) cues) (h s) ∙ ap (λ t. then_some (g s) cue ∷ t) (cells_same g h (s + 1) cues)
