-- A vector extended by an iterator that gives a known list.
use Rattle.std.proofs.Common.{◌≡◌, ℕ, ◌+◌, ◌≤◌, true, List, ◌++◌, Option, length, sym, subst, ap, ◌∙◌, arith}
use Rattle.std.proofs.iter.runs.Made.{took}
use Rattle.std.proofs.lemmas.List.{length-take, map-id}
use Rattle.std.proofs.lemmas.Iterator.{YieldsList, items_from_drains}
use Rattle.std.proofs.lemmas.Iterator.Consumers.{YieldsList-so_far}
use Rattle.std.specs.Iterator.{DrainsIf}
use Rattle.std.specs.Iterator.Runs.{EachRunFrom, Run, WholeRun}

module _ {S A : Type 0} {steps : S → Option A → S → Type 0} {s : S} {all : List A} (road : YieldsList steps (λ x. x) s all) where
  gave : (p : Run steps) → p.from ≡ s → DrainsIf steps (p.whole ≡ true) s p.items
  gave p from = subst (λ k. DrainsIf steps (p.whole ≡ true) k p.items) from (took p)

  -- there is a place for each that comes
  pub extension_fits : (held room : ℕ) → held + length all ≤ room → EachRunFrom steps s (λ p. held + p.len ≤ room)
  extension_fits held room h p seen from =
      let g = gave p from in
      omega (arith, p.long, simp (map-id, length-take) at (ap length (YieldsList-so_far road p.items g.0 g.1)))

  -- they stand behind what was there
  pub extended : (before after : List A) → WholeRun steps s (λ p. after ≡ before ++ p.items) → after ≡ before ++ all
  extended before after (p, from, whole, held) =
      let g = gave p from in
      held ∙ ap (λ items. before ++ items) (sym (map-id p.items) ∙ items_from_drains p.items (g.0, g.1, λ _. g.2 whole) road)
