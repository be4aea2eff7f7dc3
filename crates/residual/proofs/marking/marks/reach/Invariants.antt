use Rattle.std.proofs.Common.{◌≡◌, ◌-◌, false, length, get_or}
use Rattle.residual.specs.Waiting.{room}
use Rattle.residual.proofs.Searching.{Among, Between}
use Rattle.residual.proofs.marking.marks.reach.Given as goal

abbrev pub invariant-loop-vertex : goal.invariant-loop-vertex
invariant-loop-vertex l = Between (λ v. v) l.graph.arcs.now (length l.graph.star.heads.now) l.graph.nodes (λ v. get_or l.seen v false) l.queue

abbrev pub decreases-loop-vertex : goal.decreases-loop-vertex
decreases-loop-vertex l = room l.queue - l.queue.head

abbrev pub invariant-loop-arc : goal.invariant-loop-arc
invariant-loop-arc l =
    (goal.iterator-loop-arc).can_next l.arc-iterator
    × (goal.iterator-loop-arc).is_finite l.arc-iterator
    × (l.arc-iterator.graph ≡ l.graph)
    × Among (λ v. v) l.graph.arcs.now (length l.graph.star.heads.now) l.graph.nodes (λ v. get_or l.seen v false) l.initial.queue l.queue l.vertex l.arc-iterator.next
