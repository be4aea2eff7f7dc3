-- What one path sends.
-- Assumes nothing.
use Rattle.std.specs.Prelude.{ℕ, ◌<◌, List}
use Rattle.residual.specs.declared.arcs.Arc.{Arc}
use Rattle.residual.specs.Arcs.{Alike, Moved, Table}

-- the same table of n vertices after so much more went from the source to the sink
pub record Augmented (n source sink : ℕ) (old new : List Arc) (room : ℕ) : Type 0 where
  pub table : Table new n
  pub alike : Alike old new
  pub moved : Moved old new source sink room
  pub some : 0 < room
