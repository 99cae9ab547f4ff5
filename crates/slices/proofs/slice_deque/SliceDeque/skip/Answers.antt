use Rattle.std.proofs.Common.{ℕ, ◌-◌, ap, ◌∙◌, arith}
use Rattle.slices.specs.Rings.{live}
use Rattle.slices.proofs.Turning.{skip_values}
use Rattle.slices.proofs.slice_deque.SliceDeque.skip.Goals as goal

pub returns-clause-values : goal.returns-clause-values
returns-clause-values g c =
    let q = c.args.self.now in
    ap (λ (p : ℕ). live p (q.len - c.args.k) q.slots.now) c.place_at-self.ensures.value
    ∙ skip_values q.slots.now q.start q.len (omega arith) c.args.k q.within c.requires
