use Rattle.std.proofs.Common.{rules, subst, sym}
use Rattle.std.proofs.iter.runs.Made.{chains}
use Rattle.std.proofs.lemmas.Iterator.{YieldsList-from_slice}
use Rattle.std.proofs.lemmas.Iterator.Adapters.{serves_from_places}
use Rattle.std.proofs.lemmas.List.Elements.{All-get_or}
use Rattle.network.specs.Limits.{PipeFits}
use Rattle.network.specs.Net.{count, set_of}
use Rattle.network.specs.Sets.{network_of}
use Rattle.network.proofs.Adding.{across_fits, each_pipe}
use Rattle.network.proofs.node_set.NodeSet.boundary.Goals as goal

pub sum-requires-clause-can : goal.sum-requires-clause-can
sum-requires-clause-can c =
    let net = network_of c.args.self.now in (
      tt,
      serves_from_places (YieldsList-from_slice net.pipes cc) (λ x q r. search rules)
          (λ x k l e.
          let fits : PipeFits (count net) x.now = subst (PipeFits (count net)) (sym e) (All-get_or (PipeFits (count net)) net.pipes k x.now l (each_pipe net c.pipes.ensures.limits)) in
          search rules),
    )

pub sum-requires-clause-fits : goal.sum-requires-clause-fits
sum-requires-clause-fits c = search (rules, chains, across_fits _ (set_of c.args.self.now.marks.now) c.pipes.ensures.limits)
