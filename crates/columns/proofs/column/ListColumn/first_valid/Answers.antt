use Rattle.std.proofs.Common.{◌≡◌, true, false, refl, rules}
use Rattle.bitmap.specs.Maps.{row_valid}
use Rattle.columns.proofs.Ranges.{first_below}
use Rattle.columns.proofs.column.ListColumn.first_valid.Goals as goal

pub returns : goal.returns
returns g c =
    let map = c.args.self.now.map in
    first_below (λ i. row_valid map i ≡ true) (λ i. row_valid map i ≡ false) _ (λ i q h. search rules) (λ i q h. search rules) _ _ _ c.find.result c.find.ensures.ran refl c.rows.ensures
