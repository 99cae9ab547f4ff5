use Rattle.std.proofs.Common.{◌≡◌, [], Some, None, length, ap, arith, rules}
use Rattle.std.proofs.lemmas.Grind.{common_steps}
use Rattle.std.specs.List.{slice_get}
use Rattle.sheets.specs.Reading.{rows_from}
use Rattle.sheets.specs.Steps.{rows_left}
use Rattle.sheets.proofs.Left.{first_left, none_left}
use Rattle.sheets.proofs.rows.RowsIterator.next.Goals as goal

pub returns-in_err-row-clause-steps : goal.returns-in_err-row-clause-steps
returns-in_err-row-clause-steps c =
    let it = c.args.self.now in
    let rows = rows_from it.body.words.now it.body.cues.now in
    let at : slice_get rows it.next ≡ None = search rules in
    let none : rows_left it ≡ [] = none_left rows it.next at in
    grind (arith, common_steps)

pub returns-clause-steps : goal.returns-clause-steps
returns-clause-steps c =
    let it = c.args.self.now in
    let rows = rows_from it.body.words.now it.body.cues.now in
    let at : slice_get rows it.next ≡ Some c.in_ok-row.row = search rules in
    first_left rows it.next c.in_ok-row.row at

pub returns-clause-goes : goal.returns-clause-goes
returns-clause-goes c =
    let fewer = ap length (returns-clause-steps c) in
    record { on = λ _. (tt, tt, omega arith); keeps = tt; rests = λ _. tt }
