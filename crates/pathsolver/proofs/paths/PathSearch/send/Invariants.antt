use Rattle.std.proofs.Common.{◌≡◌, ◌-◌}
use Rattle.residual.specs.Arcs.{Alike, Moved}
use Rattle.residual.specs.Laid.{sink_of, source_of}
use Rattle.pathsolver.proofs.Sending.{most}
use Rattle.pathsolver.proofs.paths.PathSearch.send.Given as goal

abbrev pub invariant-loop-room : goal.invariant-loop-room
invariant-loop-room l =
    (l.graph.nodes ≡ l.initial.graph.nodes)
    × Alike l.initial.graph.arcs.items l.graph.arcs.items
    × Moved l.initial.graph.arcs.items l.graph.arcs.items (source_of l.initial.graph.nodes) (sink_of l.initial.graph.nodes) l.sent

abbrev pub decreases-loop-room : goal.decreases-loop-room
decreases-loop-room l = most l.initial.graph.arcs.items (source_of l.initial.graph.nodes) - l.sent
