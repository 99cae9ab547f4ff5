-- Records: their lists by group, and what remains of them when the first groups go.
use Rattle.std.specs.Prelude.{ℕ, ◌-◌, List, map, filter, ◌==◌, nat_le, Option}
use Rattle.records.specs.declared.record.Record.{Record}

-- the cells of group j, in the order of the records
abbrev pub list_of : {K : Type 0} → ℕ → List (Record K) → List (Option K)
list_of j records = map (λ r. r.cell) (filter (λ r. r.group == j) records)

-- a record whose group's number is lowered by n
abbrev pub lowered : {K : Type 0} → ℕ → Record K → Record K
lowered n r = record { group = r.group - n; cell = r.cell }

-- the records that remain when groups 0 to n - 1 go and the others are numbered from 0 again
abbrev pub without : {K : Type 0} → ℕ → List (Record K) → List (Record K)
without n records = map (lowered n) (filter (λ r. nat_le n r.group) records)
