use Rattle.std.proofs.Common.{◌≡◌, take}
use Rattle.records.specs.Records.{list_of}
use Rattle.emit.proofs.Copying.{Copied}
use Rattle.emit.proofs.Sorting.{size_of}
use Rattle.emit.proofs.one_list.copy_cells.Given as goal

abbrev pub invariant-loop-r : goal.invariant-loop-r
invariant-loop-r g l = record {
  place : l.p ≡ size_of (take l.r-index l.records) l.j;
  copied : Copied g.K.Keyed.empty (list_of l.j l.records) l.p l.initial.cells l.cells;
}
