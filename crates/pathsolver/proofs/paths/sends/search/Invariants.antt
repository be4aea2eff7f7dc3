use Rattle.std.proofs.Common.{◌≡◌, ◌-◌}
use Rattle.residual.specs.Laid.{sink_of, source_of, vertices}
use Rattle.residual.specs.Waiting.{room}
use Rattle.pathsolver.proofs.Seeking.{Inside, Outside}
use Rattle.pathsolver.proofs.paths.sends.search.Given as goal

abbrev pub invariant-loop-step : goal.invariant-loop-step
invariant-loop-step l = Outside l.graph.arcs.items (vertices l.graph.nodes) (source_of l.graph.nodes) (sink_of l.graph.nodes) l.visits l.queue

abbrev pub decreases-loop-step : goal.decreases-loop-step
decreases-loop-step l = room l.queue - l.queue.head

abbrev pub invariant-loop-k : goal.invariant-loop-k
invariant-loop-k l =
    (goal.iterator-loop-k).can_next l.k-iterator
    × (goal.iterator-loop-k).is_finite l.k-iterator
    × (l.k-iterator.graph.arcs.now ≡ l.graph.arcs.items)
    × Inside l.graph.arcs.items (vertices l.graph.nodes) (source_of l.graph.nodes) (sink_of l.graph.nodes) l.visits l.initial.queue l.queue l.step l.k-iterator.next
