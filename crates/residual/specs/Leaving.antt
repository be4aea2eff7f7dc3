-- The arcs that leave a vertex, one after another.
-- Assumes nothing.
use Rattle.std.specs.Prelude.{◌≡◌, ℕ, None, Option, MatchOption, option_map}
use Rattle.residual.specs.declared.arcs.Arc.{Arc}
use Rattle.residual.specs.declared.graph.leaving.Leaving.{Leaving}
use Rattle.residual.specs.Arcs.{arc_at}
use Rattle.residual.specs.Star.{latest}

-- the next arc comes with its number, and after it the latest before it that starts at the same vertex
abbrev pub GoesOn : Leaving → Option (ℕ × Arc) → Leaving → Type 0
GoesOn s r t =
    (r ≡ option_map (λ k. (k, arc_at s.graph.arcs.now k)) s.next)
    × (t.graph ≡ s.graph)
    × MatchOption s.next (t.next ≡ None) (λ k. t.next ≡ latest s.graph.arcs.now (arc_at s.graph.arcs.now k).from k)
