use Rattle.std.proofs.Common.{◌≡◌}
use Rattle.pathsolver.proofs.Walking.{Walk}
use Rattle.pathsolver.proofs.paths.sends.augment.Given as goal

abbrev pub invariant-loop-step : goal.invariant-loop-step
invariant-loop-step l =
    (l.graph.nodes ≡ l.initial.graph.nodes) × Walk l.initial.graph.arcs.items l.graph.arcs.items l.visits l.found l.step

abbrev pub decreases-loop-step : goal.decreases-loop-step
decreases-loop-step l = l.step.distance
