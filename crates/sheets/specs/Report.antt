-- The lines that are printed of a summary: a name and a number each.
use Rattle.std.specs.Prelude.{ℕ, List, ◌++◌, codes, decimal}
use Rattle.sheets.specs.declared.row.Summary.{Summary}

abbrev pub report_of : Summary → List ℕ
report_of s =
    codes "rows "
    ++ (decimal s.rows
    ++ (codes "\nmodules "
    ++ (decimal s.modules
    ++ (codes "\naccepted "
    ++ (decimal s.accepted
    ++ (codes "\nnulls "
    ++ (decimal s.nulls
    ++ (codes "\nfiltered out "
    ++ decimal s.filtered))))))))
