use Rattle.std.proofs.Common.{List, sym, subst}
use Rattle.residual.specs.declared.arcs.Arc.{Arc}
use Rattle.residual.specs.Arcs.{Table}
use Rattle.residual.proofs.Building.{table_none}
use Rattle.residual.proofs.graph.ResidualGraph.new.Goals as goal

pub invariant_of-result-clause-table : goal.invariant_of-result-clause-table
invariant_of-result-clause-table c =
    subst (λ (l : List Arc). Table l 2) (sym c.in_ok-with_capacity.ensures.items) (table_none 2)
