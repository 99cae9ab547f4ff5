use Rattle.std.proofs.Common.{length, get_or, refl, ◌∙◌, None}
use Rattle.bitmap.specs.Bits.{valid_at}
use Rattle.columns.specs.Columns.{part_cells}
use Rattle.columns.specs.Steps.{cells_left}
use Rattle.columns.proofs.Reading.{length_cells}
use Rattle.columns.proofs.Steps.{ends, read_same, reads}
use Rattle.columns.proofs.iters.CellIterIterator.next.Goals as goal

pub returns : goal.returns
returns g c =
    let part = c.args.self.now.part in
    let steps =
    reads (λ x. x) (part_cells part) None c.args.self.now.rows c.next.new.self (length part.cues.now) c.in_ok-next.field-0 (get_or (part_cells part) c.in_ok-next.field-0 None) c.cell.result c.ok.result c.in_ok-next.ensures.steps
    (length_cells (valid_at part.map.now) part.place part.cues.now) (λ _. refl) (read_same c.cell.result ∙ c.cell.ensures) c.ok.ensures.value in
    record { steps = steps; goes = ends (λ x. x) cells_left _ _ _ steps }
