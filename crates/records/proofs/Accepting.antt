-- The rows of a batch, as a chain of iterators gives them, and which of them are accepted.
use Rattle.std.proofs.Common.{◌≡◌, ℕ, Bool, List, cond, filter, length, sum_by, Option, [], map, ◌⊎◌, sym, ap, ◌∙◌}
use Rattle.std.proofs.lemmas.List.Sums.{length-filter}
use Rattle.std.proofs.lemmas.Iterator.{YieldsList, YieldsList-from_slice, YieldsList-from_zip}
use Rattle.std.proofs.lemmas.Iterator.Consumers.{YieldsList-from_enumerate, YieldsList-from_first}
use Rattle.std.specs.declared.iter.Enumerate.{Enumerate}
use Rattle.std.specs.declared.iter.Zip.{Zip}
use Rattle.std.specs.Iterator.{YieldsFirst}
use Rattle.std.specs.Iterator.Adapters.{enumerate_count, enumerate_source, enumerate_steps, zip_first, zip_second, zip_steps}
use Rattle.std.specs.List.{enumerate_from, zip}
use Rattle.std.specs.Slice.Iter.{iter_rest, iter_steps}
use Rattle.std.proofs.Common.{Iter}
use Rattle.columns.specs.declared.iters.CellIter.{CellIter}
use Rattle.columns.specs.Steps.{cells_left}
use Rattle.records.specs.Batches.{accepted_from}
use Rattle.records.proofs.Laws.{accepts, length_accepted, record_of}
use Rattle.records.proofs.Merging.{zip_done}
use denote.Ref.{Bor}

-- a row of a batch: its number, its group and its cell
abbrev pub row_of : {K : Type 0} → ℕ × (Bor ℕ × Option K) → ℕ × (ℕ × Option K)
row_of row = (row.0, (row.1.0.now, row.1.1))

pub rows_yielded : {K : Type 0} (groups : List ℕ) (cells : List (Option K)) (s : Enumerate (Zip (Iter ℕ) (CellIter K)))
    → iter_rest (zip_first (enumerate_source s)) ≡ groups → cells_left (zip_second (enumerate_source s)) ≡ cells → enumerate_count s ≡ 0
    → YieldsList (enumerate_steps (zip_steps iter_steps (YieldsFirst cells_left))) row_of s (enumerate_from 0 (zip groups cells))
rows_yielded groups cells s first second count = YieldsList-from_enumerate (YieldsList-from_zip (YieldsList-from_slice groups first) (YieldsList-from_first (λ x. x) cells_left cells second)) count

-- what a row adds to the number of accepted ones
abbrev pub counts_accepted : {K : Type 0} → Bool → Option (List Bool) → ℕ × (ℕ × Option K) → ℕ
counts_accepted ignore marks row = cond (accepts ignore marks row) 1 0

pub accepted_summed : {K : Type 0} (ignore : Bool) (marks : Option (List Bool)) (groups : List ℕ) (cells : List (Option K))
    → sum_by (counts_accepted ignore marks) (enumerate_from 0 (zip groups cells)) ≡ length (accepted_from ignore marks 0 groups cells)
accepted_summed ignore marks groups cells = sym (length_accepted ignore marks 0 groups cells ∙ length-filter (accepts ignore marks) (enumerate_from 0 (zip groups cells)))

-- where either side is at its end, no row is accepted
pub nothing_accepted : {K : Type 0} (ignore : Bool) (marks : Option (List Bool)) (i : ℕ) (groups : List ℕ) (cells : List (Option K)) → (length groups ≡ 0) ⊎ (cells ≡ []) → accepted_from ignore marks i groups cells ≡ []
nothing_accepted ignore marks i groups cells h = ap (λ rows. map record_of (filter (accepts ignore marks) (enumerate_from i rows))) (zip_done groups cells h)
