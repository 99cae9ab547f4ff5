use Rattle.rows.specs.declared.order.SortOptions.{SortOptions}
use Rattle.rows.specs.Orders.{LawfulCells}
use Rattle.rows.proofs.Laws.{lawful_cells}
use Rattle.rows.proofs.order.compare_cells.Given as given
use Rattle.rows.proofs.order.compare_cells.Goals as goal

lawful : (g : given.Over) (options : SortOptions) → LawfulCells g.K.Ordered.order g.K.Keyed.same options
lawful g options = lawful_cells g.K.Ordered.order g.K.Keyed.same g.met.K.Ordered.zero_same g.met.K.Ordered.same_zero g.met.K.Ordered.swapped g.met.K.Ordered.chain options

pub returns-in-None-None-clause-lawful : goal.returns-in-None-None-clause-lawful
returns-in-None-None-clause-lawful g c = lawful g c.args.options

pub returns-in-None-Some-clause-lawful : goal.returns-in-None-Some-clause-lawful
returns-in-None-Some-clause-lawful g c = lawful g c.args.options

pub returns-in-Some-None-clause-lawful : goal.returns-in-Some-None-clause-lawful
returns-in-Some-None-clause-lawful g c = lawful g c.args.options

pub returns-in-Some-Some-clause-lawful : goal.returns-in-Some-Some-clause-lawful
returns-in-Some-Some-clause-lawful g c = lawful g c.args.options
