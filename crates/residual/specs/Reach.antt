-- What a vertex reaches over arcs with residual capacity.
-- Assumes nothing.
use Rattle.std.specs.Prelude.{◌≡◌, ℕ, ◌<◌, true, false, List, length}
use Rattle.residual.specs.declared.arcs.Arc.{Arc}
use Rattle.residual.specs.Arcs.{Vertices, arc_at}

-- no arc with residual capacity leaves X
abbrev pub Closed : List Arc → Vertices → Type 0
Closed arcs X = (k : ℕ) → k < length arcs → X (arc_at arcs k).from ≡ true → 0 < (arc_at arcs k).remaining → X (arc_at arcs k).to ≡ true

-- R is what the source reaches: it is closed, it has the source, and it is contained in every such set
pub record Reached (arcs : List Arc) (source : ℕ) (R : Vertices) : Type 0 where
  pub start : R source ≡ true
  pub closed : Closed arcs R
  pub least : (X : Vertices) → X source ≡ true → Closed arcs X → (v : ℕ) → R v ≡ true → X v ≡ true

-- some closed set has the one vertex and not the other, so that no path with residual capacity leads from the one to the other
abbrev pub Blocked : List Arc → ℕ → ℕ → Type 0
Blocked arcs u v = (Z : Vertices) × ((Z u ≡ true) × (Z v ≡ false) × Closed arcs Z)
