-- Each chunk of eight flags, or what is left of them, is the next byte of the map.
use Rattle.std.proofs.Common.{◌≡◌, ℕ, ◌+◌, ◌*◌, ◌<◌, min, Bool, false, List, ◌++◌, length, get_or, drop, set, sym, ap, ◌∙◌, zero-add, arith}
use Rattle.std.proofs.lemmas.List.{drop-drop, drop_at, drop_min, get_or_append_left, get_or-drop, length-drop}
use Rattle.std.specs.Iterator.Adapters.{enumerate_count, enumerate_source}
use Rattle.std.specs.Slice.Iter.{chunks_rest}
use Rattle.bitmap.specs.Bits.{bytes_for, packed}
use Rattle.bitmap.specs.Maps.{flag_at}
use Rattle.bitmap.proofs.Bits.{packed_same}
use Rattle.bitmap.proofs.Filled.{byte_of, filled, filled_more, filled_all}
use Rattle.bitmap.proofs.write_map.Goals as goal

module _ (flags eight left rest : List Bool) (n : ℕ) (here : left ≡ drop (8 * n) flags) (cut : left ≡ eight ++ rest) (long : length eight ≡ min 8 (length left)) where
  rest_is : rest ≡ drop (8 * n + 8) flags
  rest_is =
      sym (drop_at eight rest (min 8 (length left)) long) ∙ ap (drop (min 8 (length left))) (sym cut) ∙ drop_min 8 left ∙ ap (drop 8) here
      ∙ drop-drop 8 (8 * n) flags

  byte_is : packed (flag_at eight) 0 (length eight) ≡ byte_of (flag_at flags) (length flags) n
  byte_is =
      packed_same (flag_at eight) (flag_at flags) 0 (8 * n) (length eight)
      (λ j l. ap (flag_at eight) (zero-add j) ∙ sym (get_or_append_left eight rest false j l) ∙ ap (λ (x : List Bool). get_or x j false) (sym cut ∙ here) ∙ get_or-drop (8 * n) flags j false)
      ∙ ap (packed (flag_at flags) (8 * n)) (omega (arith, long, ap length here, length-drop (8 * n) flags))

pub loop-k-preserved : goal.loop-k-preserved
loop-k-preserved c =
    let flags = c.args.flags.now in
    let n = enumerate_count c.loop-k.k-iterator in
    let kept = c.loop-k.invariant in
    let step = c.in-Some.ensures.steps in
    let long : length c.in-Some.eight.now ≡ min 8 (length (chunks_rest (enumerate_source c.loop-k.k-iterator))) = omega arith in
    let inside : n < bytes_for (length flags) = omega (arith, ap length kept.left, length-drop (8 * n) flags) in
    let next : 8 * n + 8 ≡ 8 * enumerate_count c.next.new.self = omega arith in
    record {
      eight = step.0.0 ∙ kept.eight;
      left = rest_is flags c.in-Some.eight.now _ _ n kept.left step.0.1.0 long ∙ ap (λ (x : ℕ). drop x flags) next;
      within = omega arith;
      written =
          ap (λ (x : ℕ). set c.loop-k.out x c.pack.result) step.1
          ∙ filled_more (flag_at flags) (length flags) n _ c.args.out.now c.loop-k.out (omega arith) kept.written (c.pack.ensures ∙ byte_is flags c.in-Some.eight.now _ _ n kept.left step.0.1.0 long)
          ∙ ap (λ (x : ℕ). filled (flag_at flags) (length flags) x c.args.out.now) (sym step.2);
    }

pub returns-clause-output : goal.returns-clause-output
returns-clause-output c =
    let step = c.in-None.ensures.steps in
    filled_all (flag_at c.args.flags.now) (length c.args.flags.now) _ c.args.out.now c.loop-k.out
    (omega (arith, ap length c.loop-k.invariant.left, length-drop (8 * c.loop-k.k-iterator.count) c.args.flags.now))
    c.loop-k.invariant.written
