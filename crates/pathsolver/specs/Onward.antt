-- The step at the source, and the step over an arc.
-- Assumes nothing.
use Rattle.std.specs.Prelude.{ℕ, ◌+◌, ◌-◌, ◌^◌, min, Some, None}
use Rattle.residual.specs.declared.arcs.Arc.{Arc}
use Rattle.pathsolver.specs.declared.step.Step.{Step}

-- at the source, by no arc, and with all the room that there can be
abbrev pub start : ℕ → Step
start v = record { vertex = v; via = None; distance = 0; room = 2 ^ 64 - 1 }

-- from the step s over arc k, whose record is a: one arc more, and no more room than the arc has
abbrev pub onward : Step → ℕ → Arc → Step
onward s k a = record { vertex = a.to; via = Some k; distance = s.distance + 1; room = min s.room a.remaining }
