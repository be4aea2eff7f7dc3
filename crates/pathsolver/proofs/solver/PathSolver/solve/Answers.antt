use Rattle.std.proofs.Common.{◌≡◌, ℕ, None, subst}
use Rattle.mincut.specs.Solver.{cut_refusal}
use Rattle.mincut.specs.View.{flow_of}
use Rattle.residual.specs.Identity.{Identity, gained, nothing}
use Rattle.residual.specs.Laid.{sink_of, source_of, vertices}
use Rattle.residual.specs.Reach.{Blocked}
use Rattle.residual.proofs.Balance.{finished}
use Rattle.pathsolver.proofs.Sending.{only_there}
use Rattle.pathsolver.proofs.solver.PathSolver.solve.Goals as goal

pub returns : goal.returns
returns c =
    let net = flow_of c.args.accepted.network in
    let sent = c.send-sent.result in
    let old = c.lay.new.self.arcs.items in
    let new = c.send-sent.new.graph.arcs.items in
    let done = subst (λ (n : ℕ). Identity (vertices n) (source_of n) old new sent (gained nothing (sink_of n) sent) × Blocked new (source_of n) (sink_of n)) c.lay.ensures.nodes
    (c.send-sent.ensures.identity, c.send-sent.ensures.blocked) in
    c.mark.ensures net sent (subst (λ (m : ℕ). cut_refusal net m ≡ None) c.requires c.args.accepted.accepted)
    (finished net old new sent (gained nothing (sink_of net.nodes) sent) c.lay.ensures.laid done.0 (only_there (sink_of net.nodes) sent) done.1)
