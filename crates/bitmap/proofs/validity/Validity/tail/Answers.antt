use Rattle.std.proofs.Common.{◌≡◌, ℕ, ◌/◌, ◌%◌, ◌^◌, get_or, ap, ◌∙◌, arith, rules}
use Rattle.bitmap.proofs.Bits.{masked}
use Rattle.bitmap.proofs.validity.Validity.tail.Goals as goal

pub returns : goal.returns
returns c =
    let last : c.unwrap_or-last.result ≡ get_or c.args.self.now.bytes.now (c.args.self.now.rows / 8) 0 = search rules in
    masked c.unwrap_or-last.result (c.args.self.now.rows % 8) (omega arith) ∙ ap (λ (x : ℕ). x % 2 ^ (c.args.self.now.rows % 8)) last
