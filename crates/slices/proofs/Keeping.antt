-- A loop that keeps, at a slice's front, what a closure gives for the values that it has read.
use Rattle.std.proofs.Common.{◌≡◌, ℕ, ◌+◌, ◌-◌, ◌<◌, ◌≤◌, List, [], ◌∷◌, ◌++◌, length, get_or, take, drop, set, sym, ap, ◌∙◌, arith, Option, None, Some}
use Rattle.std.specs.List.{filter_map, cons_option}
use Rattle.std.proofs.lemmas.List.{append-nil, drop-set-lt, get_or-drop, take_more, take_more_set}
use Rattle.std.proofs.lemmas.List.Elements.{filter_map-append}
use Rattle.std.proofs.lemmas.Grind.{drop_more_same}

-- of the first i values so many are kept, each as one of the functions gives it, and the places behind those are as they were
pub record Kept {X : Type 0} (Gives : (X → Option X) → Type 0) (before after : List X) (kept i : ℕ) : Type 0 where
  pub few : kept ≤ i
  pub front : (h : X → Option X) → Gives h → take kept after ≡ filter_map h (take i before)
  pub rest : drop kept after ≡ drop kept before

module _ {X : Type 0} {Gives : (X → Option X) → Type 0} {before after : List X} {kept i : ℕ} (k : Kept Gives before after kept i) (within : i < length before) (x : X) (read : x ≡ get_or after i x) where
  same_read : x ≡ get_or before i x
  same_read =
      let few = k.few in
      let e : kept + (i - kept) ≡ i = omega arith in
      read ∙ ap (λ n. get_or after n x) (sym e) ∙ sym (get_or-drop kept after (i - kept) x) ∙ ap (λ zs. get_or zs (i - kept) x) k.rest
      ∙ get_or-drop kept before (i - kept) x ∙ ap (λ n. get_or before n x) e

  more : (h : X → Option X) (r : Option X) → r ≡ h x → filter_map h (take (i + 1) before) ≡ filter_map h (take i before) ++ cons_option r []
  more h r e =
      ap (filter_map h) (take_more before i x within ∙ ap (λ y. take i before ++ y ∷ []) (sym same_read))
      ∙ filter_map-append h (take i before) (x ∷ []) ∙ ap (λ o. filter_map h (take i before) ++ cons_option o []) (sym e)

  pub kept_more : (y : X) → ((h : X → Option X) → Gives h → Some y ≡ h x) → kept < length after → Kept Gives before (set after kept y) (kept + 1) (i + 1)
  kept_more y gives l = record {
    few = let few = k.few in omega arith;
    front = λ h g. take_more_set after kept y l ∙ ap (λ zs. zs ++ y ∷ []) (k.front h g) ∙ sym (more h (Some y) (gives h g));
    rest = drop-set-lt (kept + 1) after kept y (omega arith) ∙ drop_more_same after before kept k.rest;
  }

  pub kept_no_more : ((h : X → Option X) → Gives h → None ≡ h x) → Kept Gives before after kept (i + 1)
  kept_no_more gives = record {
    few = let few = k.few in omega arith;
    front = λ h g. k.front h g ∙ sym (more h None (gives h g) ∙ append-nil (filter_map h (take i before)));
    rest = k.rest;
  }
