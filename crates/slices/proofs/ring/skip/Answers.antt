use Rattle.std.proofs.Common.{ℕ, ◌-◌, ap, ◌∙◌, arith}
use Rattle.slices.specs.Rings.{live}
use Rattle.slices.proofs.Turning.{skip_values}
use Rattle.slices.proofs.ring.skip.Goals as goal

pub returns-clause-values : goal.returns-clause-values
returns-clause-values g c =
    ap (λ (p : ℕ). live p (c.args.n - c.args.k) c.args.slots.now) c.place_at.ensures.value
    ∙ skip_values c.args.slots.now c.args.start c.args.n (omega arith) c.args.k c.requires.1.0 c.requires.1.1
