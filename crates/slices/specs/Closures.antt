-- What a closure answers.
use Rattle.std.specs.Prelude.{◌≡◌}
use denote.Param.Members.{Shared}

-- each call gives what h gives of the argument
abbrev pub Computes : {F A R : Type 0} → Shared F (A × Unit {0}) R → (A → R) → F → Type 0
Computes {F} {A} {R} g h f = (x : A) (r : R) → g.post f (x, tt) r → r ≡ h x
