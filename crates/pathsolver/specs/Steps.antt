-- The steps of a search, and the paths back to the source that they make.
-- Assumes nothing.
use Rattle.std.specs.Prelude.{◌≡◌, ℕ, ◌<◌, ◌≤◌, List, length, is_some, Some, None, Option, slice_index_or}
use Rattle.residual.specs.declared.arcs.Arc.{Arc}
use Rattle.residual.specs.Arcs.{Vertices, arc_at}
use Rattle.pathsolver.specs.declared.step.Step.{Step}

-- for each vertex the step by which it was reached, if it was
abbrev pub Visits : Type 0
Visits = List (Option Step)

abbrev pub visit_at : Visits → ℕ → Option Step
visit_at visits v = slice_index_or visits v None

abbrev pub visited : Visits → Vertices
visited visits v = is_some (visit_at visits v)

-- s is one arc longer than b, which reached the vertex where arc k starts, and no arc of its path can take less than its room
pub record Follows (arcs : List Arc) (s : Step) (k : ℕ) (b : Step) : Type 0 where
  pub there : k < length arcs
  pub from : (arc_at arcs k).from ≡ b.vertex
  pub to : (arc_at arcs k).to ≡ s.vertex
  pub farther : b.distance < s.distance
  pub narrower : s.room ≤ b.room
  pub takes : s.room ≤ (arc_at arcs k).remaining

-- how a step was reached: at the source by no arc, elsewhere by an arc from a vertex that was reached before
abbrev pub Reached : List Arc → Visits → ℕ → Step → Option ℕ → Type 0
Reached arcs visits source s None = s.vertex ≡ source
Reached arcs visits source s (Some k) = (b : Step) × ((visit_at visits b.vertex ≡ Some b) × Follows arcs s k b)

-- each vertex that was reached has its step, and the steps lead back to the source
pub record Trail (arcs : List Arc) (visits : Visits) (source : ℕ) : Type 0 where
  pub vertex : (v : ℕ) (s : Step) → visit_at visits v ≡ Some s → s.vertex ≡ v
  pub back : (v : ℕ) (s : Step) → visit_at visits v ≡ Some s → Reached arcs visits source s s.via

-- s is the step that reached the sink, and something can be sent along its path
pub record Found (visits : Visits) (sink : ℕ) (s : Step) : Type 0 where
  pub vertex : s.vertex ≡ sink
  pub at : visit_at visits s.vertex ≡ Some s
  pub some : 0 < s.room
