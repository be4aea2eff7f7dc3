-- Laws that solvers share.
-- Assumes nothing.
use Rattle.std.specs.Prelude.{◌≡◌, ℕ, ◌<◌, ◌≤◌, if◌then◌else◌, List, length, None, slice_index}
use Rattle.mincut.specs.Flow.{Flow}
use Rattle.mincut.specs.Solver.{Solved, cut_refusal}
use Rattle.residual.specs.declared.arcs.Arc.{Arc}
use Rattle.residual.specs.Arcs.{Moved, Paired, Vertices, arc_at, pushed}
use Rattle.residual.specs.Finished.{Finished}
use Rattle.residual.specs.Laid.{source_of}
use Rattle.residual.specs.Reach.{Reached}

-- a push moves its amount from the vertex where the arc starts to the one where it ends
abbrev pub PushMoves : Type 0
PushMoves =
    (arcs : List Arc) (i d : ℕ) → i < length arcs → Paired arcs i → d ≤ (arc_at arcs i).remaining
    → Moved arcs (pushed arcs i d) (arc_at arcs i).from (arc_at arcs i).to d

-- once no more can be sent, the nodes that the source reaches are the smallest minimum cut, and what was sent is its capacity
abbrev pub ReachedIsSmallest : Type 0
ReachedIsSmallest =
    (net : Flow) (arcs : List Arc) (sent : ℕ) (R : Vertices) (before marks : List ℕ) → cut_refusal net (length before) ≡ None → length marks ≡ length before
    → Finished net arcs sent → Reached arcs (source_of net.nodes) R → ((v : ℕ) → v < length marks → slice_index marks v ≡ (if R v then 1 else 0))
    → Solved net marks sent
