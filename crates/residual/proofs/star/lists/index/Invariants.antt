use Rattle.residual.proofs.Indexing.{Listed}
use Rattle.residual.proofs.star.lists.index.Given as goal

abbrev pub invariant-loop-k : goal.invariant-loop-k
invariant-loop-k l = Listed l.arcs l.heads l.nexts l.k
