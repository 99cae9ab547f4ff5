-- What a call answers that makes a row of checks: the refusal of the first check that applies, or the value.
use Rattle.std.specs.Prelude.{Bool, List, [], ◌∷◌, Ok, Err, Result, if◌then◌else◌}
use Rattle.refusals.specs.declared.Refusal.{Refusal}

-- each check with the refusal that it gives where it applies, in the order in which they are made
abbrev pub Checks : Type 0
Checks = List (Bool × Refusal)

abbrev pub unless : {T : Type 0} → Checks → T → Result T Refusal
unless [] value = Ok value
unless (check ∷ later) value = if check.0 then Err check.1 else unless later value

-- whether a value came or which refusal, without the value
abbrev pub outcome_of : {T : Type 0} → Result T Refusal → Result (Unit {0}) Refusal
outcome_of (Ok value) = Ok tt
outcome_of (Err refusal) = Err refusal
