use Rattle.std.proofs.Common.{◌≡◌, ◌<◌, length, vec_items, ◌∙◌, arith}
use Rattle.std.proofs.lemmas.List.{with_items_is}
use Rattle.std.specs.Vec.{with_items}
use Rattle.residual.specs.Arcs.{pushed}
use Rattle.residual.specs.Laid.{vertices}
use Rattle.residual.proofs.Pushing.{fits_pushed, indexed_pushed, table_pushed}
use Rattle.residual.proofs.graph.ResidualGraph.push.Goals as goal
use Rattle.residual.proofs.graph.ResidualGraph.push.Goals.{After-push}

-- the arcs that the graph has once the slice it lent is written
sent : (c : After-push) → vec_items (with_items c.args.self.now.arcs c.push.new.arcs) ≡ pushed c.args.self.now.arcs.items c.args.k c.args.amount
sent c = with_items_is c.args.self.now.arcs c.push.new.arcs (omega (arith, c.as_mut_slice.ensures.len)) ∙ rw (← c.as_mut_slice.ensures.value) c.push.ensures

pub push-requires-clause-fits : goal.push-requires-clause-fits
push-requires-clause-fits c =
    let graph = c.args.self.now in
    let within : c.args.k < length graph.arcs.items = omega arith in
    let fits = fits_pushed graph.arcs.items (vertices graph.nodes) c.args.k c.args.amount graph.table within c.requires.room in
    rw c.as_mut_slice.ensures.value (omega (arith, fits))

pub invariant_of-self-clause-table : goal.invariant_of-self-clause-table
invariant_of-self-clause-table c =
    let graph = c.args.self.now in
    let within : c.args.k < length graph.arcs.items = omega arith in
    rw (sent (goal.at.invariant_of-self-clause-table c).After-push) (table_pushed graph.arcs.items (vertices graph.nodes) c.args.k _ graph.table within (omega arith))

pub invariant_of-self-clause-indexed : goal.invariant_of-self-clause-indexed
invariant_of-self-clause-indexed c =
    let graph = c.args.self.now in
    rw (sent (goal.at.invariant_of-self-clause-indexed c).After-push) (indexed_pushed graph.arcs.items graph.star.heads.items graph.star.nexts.items c.args.k _ graph.indexed)
