use Rattle.std.proofs.Common.{◌≡◌, ℕ, ◌<◌, false, cond, get_or}
use Rattle.residual.proofs.marking.marks.write_marks.Given as goal

abbrev pub invariant-loop-node : goal.invariant-loop-node
invariant-loop-node l = (v : ℕ) → v < l.node → get_or l.marks v 0 ≡ cond (get_or l.seen v false) 1 0
