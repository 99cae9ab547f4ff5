use Rattle.std.proofs.Common.{ℕ, ◌+◌, set, ap, ◌∙◌, arith}
use Rattle.slices.specs.Rings.{live}
use Rattle.slices.proofs.Turning.{push_values}
use Rattle.slices.proofs.slice_deque.SliceDeque.push_back.Goals as goal

pub returns-clause-values : goal.returns-clause-values
returns-clause-values g c =
    let q = c.args.self.now in
    ap (λ (p : ℕ). live q.start (q.len + 1) (set q.slots.now p c.args.value)) c.place_at-place.ensures.value
    ∙ push_values q.slots.now q.start q.len (omega arith) c.requires.room c.args.value
