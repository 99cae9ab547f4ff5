-- The bytes that a text holds.
use Rattle.std.specs.Prelude.{ℕ, List, take}
use Rattle.kinds.specs.declared.text.Text.{Text}

-- every promise about a text goes through this definition
abbrev pub text_of : Text → List ℕ
text_of t = take t.len t.bytes
