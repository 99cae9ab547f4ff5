use Rattle.std.proofs.Common.{rules}
use Rattle.columns.specs.Merging.{RowCovers, RowWhole}
use Rattle.columns.proofs.Ranges.{all_between}
use Rattle.columns.proofs.column.ListColumn.whole_between.Goals as goal

pub returns : goal.returns
returns g c = all_between (RowWhole c.args.self.now) (RowCovers c.args.self.now) _ (λ i q h. search rules) (λ i q h. search rules) _ _ c.all.result c.all.ensures.ran
