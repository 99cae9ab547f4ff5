use Rattle.std.proofs.Common.{◌≡◌, ℕ, ◌+◌, ◌-◌, true, length, sym, ap, ◌∙◌, subst, arith}
use Rattle.bitmap.specs.Maps.{row_valid}
use Rattle.columns.specs.Columns.{column_rows}
use Rattle.columns.specs.Offsets.{start_of}
use Rattle.columns.proofs.AsIs.{IsLast, gap_none, gap_there, given_null, given_run, given_whole, in_order, joined_null, joined_run, joined_whole, last_found, none_null, some_rows}
use Rattle.columns.proofs.Rules.{start_rises}
use Rattle.columns.proofs.column.ListColumn.get_optional_values_to_merge_as_is.Goals as goal

pub cut-requires : goal.cut-requires
cut-requires g c =
    let column = c.args.self.now in
    let rows = c.rows-rows.ensures in
    let low = c.start-from.ensures.value in
    let high = c.start-to.ensures.value in
    let rises = start_rises column.offsets.now (column_rows column) (length column.cells.cues.now) column.good 0 c.rows-rows.result (omega arith) (omega arith) in
    (omega arith, c.start-to.ensures.bound)

pub returns-then-null_count-eq0 : goal.returns-then-null_count-eq0
returns-then-null_count-eq0 g c =
    let column = c.args.self.now in
    let all = none_null column.map (sym c.null_count.ensures ∙ c.if-null_count-eq0.true) in
    let high = c.start-to.ensures.value ∙ ap (start_of column.offsets.now) c.rows-rows.ensures in
    record {
      part = given_whole column c.cut.result c.start-from.result c.start-to.result all c.start-from.ensures.value high c.cut.ensures;
      joined = joined_whole column c.cut.result c.start-from.result c.start-to.result all c.start-from.ensures.value high c.cut.ensures;
    }

pub returns-in_default : goal.returns-in_default
returns-in_default g c =
    let column = c.args.self.now in
    record {
      part = given_null column c.cut-in_default.result (some_rows column.map (λ e. c.if-null_count-eq0.false (c.null_count.ensures ∙ e))) c.in_default.ensures c.cut-in_default.ensures;
      joined = joined_null column c.cut-in_default.result c.in_default.ensures c.cut-in_default.ensures;
    }

pub returns-then-not-whole_between : goal.returns-then-not-whole_between
returns-then-not-whole_between g c =
    let column = c.args.self.now in
    let first = c.in-Some.first in
    let last = c.unwrap_or-last.result in
    let low = c.in-Some.ensures in
    let high : IsLast column last = subst (IsLast column) (sym c.unwrap_or-last.ensures) (last_found column first low c.last_valid.result c.last_valid.ensures) in
    let hole = c.if-not-whole_between.ensures in
    let end : row_valid column.map (last + 1 - 1) ≡ true = subst (λ (i : ℕ). row_valid column.map i ≡ true) (let e : last ≡ last + 1 - 1 = omega arith in e) high.1 in
    record {
      part = gap_none column first last low high hole;
      joined = gap_there column first (last + 1) low.1 (omega (arith, high.0)) end hole.0 hole.1 (omega (arith, hole.2)) hole.3;
    }

pub cut-requires-2 : goal.cut-requires-2
cut-requires-2 g c =
    let column = c.args.self.now in
    let first = c.in-Some.first in
    let last = c.unwrap_or-last.result in
    let low = c.in-Some.ensures in
    let high : IsLast column last = subst (IsLast column) (sym c.unwrap_or-last.ensures) (last_found column first low c.last_valid.result c.last_valid.ensures) in
    let order = in_order column first last low high in
    let rises = start_rises column.offsets.now (column_rows column) (length column.cells.cues.now) column.good first (last + 1) (omega arith) (omega (arith, high.0)) in
    let from = c.start-from-2.ensures.value in
    let to = c.start-to-2.ensures.value in
    (omega arith, c.start-to-2.ensures.bound)

pub returns : goal.returns
returns g c =
    let column = c.args.self.now in
    let first = c.in-Some.first in
    let last = c.unwrap_or-last.result in
    let low = c.in-Some.ensures in
    let high : IsLast column last = subst (IsLast column) (sym c.unwrap_or-last.ensures) (last_found column first low c.last_valid.result c.last_valid.ensures) in
    let inside = c.if-not-whole_between.ensures in
    let from = c.start-from-2.ensures.value in
    let to = c.start-to-2.ensures.value in
    record {
      part = given_run column first last low high inside c.cut-2.result c.start-from-2.result c.start-to-2.result from to c.cut-2.ensures;
      joined = joined_run column first last low high inside c.cut-2.result c.start-from-2.result c.start-to-2.result from to c.cut-2.ensures;
    }
