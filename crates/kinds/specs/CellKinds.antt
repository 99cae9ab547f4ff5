-- When cells are equal, and how they hash. A cell is None, which is a null, or Some cue.
use Rattle.std.specs.Prelude.{ℕ, Bool, true, false, Option, Some, None}

-- two nulls are equal, and two cues that their kind calls equal; a null equals no cue
abbrev pub same_cell : {K : Type 0} → (K → K → Bool) → Option K → Option K → Bool
same_cell same None None = true
same_cell same None (Some b) = false
same_cell same (Some a) None = false
same_cell same (Some a) (Some b) = same a b

abbrev pub hash_cell : {K : Type 0} → (K → ℕ) → Option K → ℕ
hash_cell hashed None = 0
hash_cell hashed (Some a) = hashed a
