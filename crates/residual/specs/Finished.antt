-- What a solver has done once no more can be sent.
-- Assumes nothing.
use Rattle.std.specs.Prelude.{◌≡◌, ℕ, ◌+◌, List}
use Rattle.mincut.specs.Flow.{Flow, capacity}
use Rattle.residual.specs.declared.arcs.Arc.{Arc}
use Rattle.residual.specs.Arcs.{Vertices, residual}
use Rattle.residual.specs.Laid.{Separates, sink_of, source_of}
use Rattle.residual.specs.Reach.{Blocked}

-- so much was sent from the source to the sink, which is what every set that separates them lost of its capacity,
-- and no more can be sent
pub record Finished (net : Flow) (arcs : List Arc) (sent : ℕ) : Type 0 where
  pub kept : (X : Vertices) → Separates net.nodes X → residual X arcs + sent ≡ capacity net X
  pub blocked : Blocked arcs (source_of net.nodes) (sink_of net.nodes)
