-- Which cells a null policy lets through.
use Rattle.std.specs.Prelude.{Bool, not, ◌&&◌, List, filter, is_none, Option}

-- whether a cell passes the null policy: where nulls are ignored, only if it is not null
abbrev pub passes : {K : Type 0} → Bool → Option K → Bool
passes ignore cell = not (ignore && is_none cell)

-- the cells that pass, in their order
abbrev pub accepted : {K : Type 0} → Bool → List (Option K) → List (Option K)
accepted ignore cells = filter (passes ignore) cells
