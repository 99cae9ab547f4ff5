-- A call gives its value exactly if none of its checks applies.
use Rattle.std.proofs.Common.{◌≡◌, ℕ, ◌<◌, Bool, true, false, leb, [], ◌∷◌, is_ok, Ok, Err, refl}
use Rattle.std.specs.List.{AllByRecursion}
use Rattle.std.proofs.lemmas.Bool.{lt-leb}
use Rattle.refusals.specs.declared.Refusal.{Refusal}
use Rattle.refusals.specs.declared.Refusal.TheVariants.{IndexOutOfRange}
use Rattle.refusals.specs.Checks.{Checks, unless}

-- no check applies
abbrev pub Pass : Checks → Type 0
Pass checks = AllByRecursion (λ (check : Bool × Refusal). check.0 ≡ false) checks

pub unless_pass : {T : Type 0} (checks : Checks) (value : T) → Pass checks → unless checks value ≡ Ok value
unless_pass [] value h = refl
unless_pass (check ∷ later) value h = rw h.0 (unless_pass later value h.1)

pub pass_from_ok : {T : Type 0} (checks : Checks) (value : T) → is_ok (unless checks value) ≡ true → Pass checks
pass_from_ok [] value h = tt
pass_from_ok ((true, refusal) ∷ later) value h = absurd (cc)
pass_from_ok ((false, refusal) ∷ later) value h = (refl, pass_from_ok later value h)

-- which refusal is given does not depend on the value
pub unless_err : {T U : Type 0} (checks : Checks) (value : T) (other : U) (r : Refusal) → unless checks value ≡ Err r → unless checks other ≡ Err r
unless_err [] value other r h = absurd (cc)
unless_err ((true, refusal) ∷ later) value other r h = cc
unless_err ((false, refusal) ∷ later) value other r h = unless_err later value other r h

-- a row that is there
pub ok_within : {T : Type 0} (rows i : ℕ) (value other : T) → i < rows → value ≡ other → Ok value ≡ unless ((leb rows i, IndexOutOfRange) ∷ []) other
ok_within rows i value other within same = rw (lt-leb rows i within, same)
