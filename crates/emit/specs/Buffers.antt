-- The lent buffers that a struct holds.
use Rattle.std.specs.Prelude.{◌≡◌, length}
use Rattle.emit.specs.declared.cells.CellBuffers.{CellBuffers}

-- the struct still holds the two buffers that it held
pub record SameBuffers {K : Type 0} (old new : CellBuffers K) : Type 0 where
  pub map : new.map.ghost_name ≡ old.map.ghost_name
  pub map_length : length new.map.now ≡ length old.map.now
  pub cues : new.cues.ghost_name ≡ old.cues.ghost_name
  pub cues_length : length new.cues.now ≡ length old.cues.now
