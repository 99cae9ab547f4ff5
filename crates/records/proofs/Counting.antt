-- How many cells the lists of a column have, as a chain of iterators counts them.
use Rattle.std.proofs.Common.{◌≡◌, List, ◌∷◌, length, false, Option, None, sym, ap, ◌∙◌, subst}
use Rattle.std.proofs.lemmas.Iterator.{YieldsList}
use Rattle.std.proofs.lemmas.Iterator.Adapters.{YieldsList-from_flatten}
use Rattle.std.proofs.lemmas.Iterator.Consumers.{YieldsList-from_first, YieldsList-from_shown}
use Rattle.std.specs.declared.iter.Flatten.{Flatten}
use Rattle.std.specs.declared.iter.Once.{Once}
use Rattle.std.specs.Iterator.{YieldsFirstBy}
use Rattle.std.specs.Iterator.Adapters.{flatten_source, flatten_front, flatten_back, flatten_done, flatten_steps, once_item, once_steps}
use Rattle.std.specs.List.{flat_map}
use Rattle.std.specs.Option.{option_map, option_to_list}
use Rattle.columns.specs.declared.column.ListColumn.{ListColumn}
use Rattle.columns.specs.declared.column.Part.{Part}
use Rattle.columns.specs.declared.iters.ListIter.{ListIter}
use Rattle.columns.specs.Columns.{part_cells}
use Rattle.columns.specs.Steps.{lists_in, lists_left}

-- the value in hand comes, once, and v reads it
once_by : {A B : Type 0} (v : A → B) (o : Option A) (s : Once A) → once_item s ≡ o → YieldsList once_steps v s (option_to_list (option_map v o))
once_by {A} {B} v o s e =
    subst (λ o. YieldsList once_steps v s (option_to_list (option_map v o))) e
    (YieldsList-from_shown once_steps v (λ u. shown (once_item u)) (λ u t h. ap (λ o. length (shown o)) (sym h.0)) (λ u x t h. ap shown (sym h.0) ∙ ap (λ o. v x ∷ shown o) (sym h.1)) s)
  where
    shown : Option A → List B
    shown o = option_to_list (option_map v o)

module _ {K : Type 0} where
  pub parts_yielded : (becomes : Option (Part K) → Once (Part K) → Type 0) (s : Flatten (ListIter K) (Once (Part K))) (c : ListColumn K)
      → ((list : Option (Part K)) (o : Once (Part K)) → becomes list o → once_item o ≡ list)
      → lists_left (flatten_source s) ≡ lists_in c → flatten_front s ≡ None → flatten_back s ≡ None → flatten_done s ≡ false
      → YieldsList (flatten_steps (YieldsFirstBy (option_map part_cells) lists_left) becomes once_steps) part_cells s (flat_map option_to_list (lists_in c))
  parts_yielded becomes s c is lists front back done =
      YieldsList-from_flatten becomes once_steps part_cells option_to_list (λ list o b. once_by part_cells list o (is list o b)) (YieldsList-from_first (option_map part_cells) lists_left (lists_in c) lists) front back done
