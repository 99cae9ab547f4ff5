-- The checks of a list column pass exactly if its parts keep the rules, and what is made of them reads as they do.
use Rattle.std.proofs.Common.{◌≡◌, Bool, ltb, length, is_ok, Decides, sym, ap, ◌∙◌}
use Rattle.std.proofs.lemmas.Bool.{not-false, not_from_true, eqb-true, eq-eqb, ltb-false, le-ltb, or_parts, or_from}
use Rattle.refusals.specs.Checks.{unless}
use Rattle.refusals.proofs.Checks.{Pass, unless_pass, pass_from_ok}
use Rattle.bitmap.specs.Bits.{bytes_for}
use Rattle.columns.specs.declared.column.ColumnParts.{ColumnParts}
use Rattle.columns.specs.Columns.{GoodColumn, column_checks}
use Rattle.columns.proofs.Rules.{offsets_decide}

module _ {K : Type 0} (p : ColumnParts K) where
  good_from_pass : Pass (column_checks p) → GoodColumn p
  good_from_pass h =
      let sizes = or_parts (ltb 65536 p.rows) (ltb 1048576 p.cells.rows) h.0 in
      let maps = or_parts (ltb (length p.map.now) (bytes_for p.rows)) (ltb (length p.cells.map.now) (bytes_for p.cells.rows)) h.1.1.0 in
      record {
        rows_fit = ltb-false 65536 p.rows sizes.0;
        cells_fit = ltb-false 1048576 p.cells.rows sizes.1;
        level = eqb-true (length p.cells.cues.now) p.cells.rows (not-false _ h.1.0);
        map_long = ltb-false (length p.map.now) (bytes_for p.rows) maps.0;
        cell_map_long = ltb-false (length p.cells.map.now) (bytes_for p.cells.rows) maps.1;
        offsets_good = (offsets_decide p.offsets.now p.rows p.cells.rows).0 (not-false _ h.1.1.1.0);
      }

  pass_from_good : GoodColumn p → Pass (column_checks p)
  pass_from_good good = (
    or_from _ _ (le-ltb 65536 p.rows good.rows_fit) (le-ltb 1048576 p.cells.rows good.cells_fit),
    (
      not_from_true _ (eq-eqb (length p.cells.cues.now) p.cells.rows good.level),
      (
        or_from _ _ (le-ltb (length p.map.now) (bytes_for p.rows) good.map_long) (le-ltb (length p.cells.map.now) (bytes_for p.cells.rows) good.cell_map_long),
        (not_from_true _ ((offsets_decide p.offsets.now p.rows p.cells.rows).1 good.offsets_good), tt),
      ),
    ),
  )

  pub column_decides : Decides (is_ok (unless {T = Unit {0}} (column_checks p) tt)) (GoodColumn p)
  column_decides = (
    λ e. good_from_pass (pass_from_ok {T = Unit {0}} (column_checks p) tt e),
    λ good. ap is_ok (unless_pass {T = Unit {0}} (column_checks p) tt (pass_from_good good)),
  )

  -- what the outcome of a making says of its parts
  pub good_when : (b : Bool) → b ≡ is_ok (unless {T = Unit {0}} (column_checks p) tt) → Decides b (GoodColumn p)
  good_when b h = (λ e. column_decides.0 (sym h ∙ e), λ good. h ∙ column_decides.1 good)
