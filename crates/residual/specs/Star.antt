-- The arcs of each vertex, by a list that begins with the latest.
-- Assumes nothing.
use Rattle.std.specs.Prelude.{◌≡◌, ℕ, zero, suc, ◌+◌, ◌<◌, ◌≤◌, if◌then◌else◌, List, length, Some, None, Option, ◌==◌, slice_index_or}
use Rattle.residual.specs.declared.arcs.Arc.{Arc}
use Rattle.residual.specs.Arcs.{arc_at}

-- of the first i arcs, the latest that starts at u
unfoldable pub latest : List Arc → ℕ → ℕ → Option ℕ
latest arcs u zero = None
latest arcs u (suc i) = if (arc_at arcs i).from == u then Some i else latest arcs u i

-- each vertex leads to its latest arc, and each arc to the latest before it that starts at the same vertex
pub record Indexed (arcs : List Arc) (heads nexts : List (Option ℕ)) : Type 0 where
  pub head : (u : ℕ) → u < length heads → slice_index_or heads u None ≡ latest arcs u (length arcs)
  pub next : (k : ℕ) → k < length arcs → slice_index_or nexts k None ≡ latest arcs (arc_at arcs k).from k
  pub long : length arcs ≤ length nexts

-- the arcs from the next one of a vertex on are numbered below this
abbrev pub ahead : Option ℕ → ℕ
ahead None = 0
ahead (Some k) = k + 1
