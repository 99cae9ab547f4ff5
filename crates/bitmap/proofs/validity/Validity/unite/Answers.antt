-- A whole byte has the bits that both bytes have, and the last byte has those of them that are rows.
use Rattle.std.proofs.Common.{◌≡◌, ℕ, ◌+◌, ◌-◌, ◌*◌, ◌/◌, ◌%◌, ◌^◌, ◌<◌, min, get_or, sym, ap, ◌∙◌, mod-eq_of_lt, arith}
use Rattle.std.proofs.lemmas.Nat.{and_mod}
use Rattle.std.proofs.lemmas.List.{length-take-le}
use lib.Bits.{bit_and, and_lt}
use Rattle.bitmap.specs.declared.validity.Validity.{Validity}
use Rattle.bitmap.specs.Bits.{packed}
use Rattle.bitmap.specs.Maps.{both_valid}
use Rattle.bitmap.proofs.Bits.{packed_both}
use Rattle.bitmap.proofs.Filled.{byte_of, filled_more, filled_front, filled_all}
use Rattle.bitmap.proofs.validity.Validity.unite.Goals as goal

-- byte k, of which n bits are rows
both_byte : (a b : Validity) (rows k n : ℕ) → n ≡ min 8 (rows - 8 * k) → bit_and (get_or a.bytes.now k 0) (get_or b.bytes.now k 0) % 2 ^ n ≡ byte_of (both_valid a b) rows k
both_byte a b rows k n e = sym (packed_both a.bytes.now b.bytes.now k n (omega arith)) ∙ ap (packed (both_valid a b) (8 * k)) e

pub loop-k-preserved : goal.loop-k-preserved
loop-k-preserved c =
    let a = c.args.self.now in
    let b = c.args.other.now in
    let inside : c.loop-k.k < a.rows / 8 = omega (arith, length-take-le (a.rows / 8) c.args.out.now (omega arith)) in
    let whole = mod-eq_of_lt (and_lt 8 (get_or a.bytes.now c.loop-k.k 0) (get_or b.bytes.now c.loop-k.k 0) (omega arith) (omega arith)) in
    filled_more (both_valid a b) a.rows c.loop-k.k _ _ c.loop-k.byte-items (omega arith) c.loop-k.invariant (sym whole ∙ both_byte a b a.rows c.loop-k.k 8 (omega arith))

pub returns-then-whole-size-clause-output : goal.returns-then-whole-size-clause-output
returns-then-whole-size-clause-output c =
    let a = c.args.self.now in
    let b = c.args.other.now in
    let other = c.tail-then-whole-size.ensures ∙ ap (λ (x : ℕ). get_or b.bytes.now (x / 8) 0 % 2 ^ (x % 8)) (sym c.if-self-other.false) in
    let end : c.loop-k.k ≡ a.rows / 8 = omega (arith, length-take-le (a.rows / 8) c.args.out.now (omega arith)) in
    let byte =
    ap (λ (x : ℕ). bit_and x c.tail-then-whole-size.result) c.tail.ensures ∙ ap (bit_and (get_or a.bytes.now (a.rows / 8) 0 % 2 ^ (a.rows % 8))) other
    ∙ sym (and_mod (get_or a.bytes.now (a.rows / 8) 0) (get_or b.bytes.now (a.rows / 8) 0) (a.rows % 8))
    ∙ both_byte a b a.rows (a.rows / 8) (a.rows % 8) (omega arith) in
    filled_all (both_valid a b) a.rows (a.rows / 8 + 1) c.args.out.now _ (omega arith)
    (filled_more (both_valid a b) a.rows (a.rows / 8) _ c.args.out.now _ (omega arith)
    (filled_front (both_valid a b) a.rows c.loop-k.k (a.rows / 8) c.args.out.now _ (omega arith) end c.loop-k.invariant)
    byte)

pub returns-else-whole-size-clause-output : goal.returns-else-whole-size-clause-output
returns-else-whole-size-clause-output c =
    let a = c.args.self.now in
    let b = c.args.other.now in
    let end : c.loop-k.k ≡ a.rows / 8 = omega (arith, length-take-le (a.rows / 8) c.args.out.now (omega arith)) in
    filled_all (both_valid a b) a.rows (a.rows / 8) c.args.out.now _ (omega arith)
    (filled_front (both_valid a b) a.rows c.loop-k.k (a.rows / 8) c.args.out.now _ (omega arith) end c.loop-k.invariant)
