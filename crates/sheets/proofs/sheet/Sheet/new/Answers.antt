-- What the calls read is what the header says at its places.
use Rattle.std.proofs.Common.{◌≡◌, drop, sym, ap, ◌∙◌, arith}
use Rattle.std.proofs.lemmas.Grind.{common_steps}
use Rattle.std.proofs.lemmas.List.{drop-drop}
use Rattle.refusals.specs.Checks.{outcome_of, unless}
use Rattle.sheets.specs.Layout.{rows_in, modules_in, body_in}
use Rattle.sheets.specs.Sheets.{sheet_checks}
use Rattle.sheets.proofs.Good.{good_sheet}
use Rattle.sheets.proofs.sheet.Sheet.new.Goals as goal

rows_is : (c : goal.After-from_body) → rows_in c.args.bytes.now ≡ c.from_le_bytes-rows.result
rows_is c = grind (arith, common_steps)

modules_is : (c : goal.After-from_body) → modules_in c.args.bytes.now ≡ c.from_le_bytes-modules.result
modules_is c = grind (arith, common_steps)

body_is : (c : goal.After-from_body) → body_in c.args.bytes.now ≡ c.in_ok-modules.body.now
body_is c =
    let rest : drop 4 c.args.bytes.now ≡ c.in_ok-rows.rest.now = grind (arith, common_steps) in
    let body : drop 4 c.in_ok-rows.rest.now ≡ c.in_ok-modules.body.now = grind (arith, common_steps) in
    sym (drop-drop 4 4 c.args.bytes.now) ∙ ap (drop 4) rest ∙ body

pub returns-clause-good : goal.returns-clause-good
returns-clause-good c =
    let outcome : outcome_of c.from_body.result ≡ unless (sheet_checks c.args.bytes.now) tt = grind (arith, common_steps) in
    good_sheet c.args.bytes.now c.from_body.result outcome

pub returns-clause-rows : goal.returns-clause-rows
returns-clause-rows c = rw (rows_is c, body_is c) c.from_body.ensures.rows

pub returns-clause-modules : goal.returns-clause-modules
returns-clause-modules c = rw (modules_is c) c.from_body.ensures.modules
