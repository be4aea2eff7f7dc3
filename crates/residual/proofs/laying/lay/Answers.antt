use Rattle.std.proofs.Common.{List, length, sym, ap, ◌∙◌, subst, rules}
use Rattle.network.specs.Limits.{no_pipe}
use Rattle.mincut.specs.View.{flow_of}
use Rattle.mincut.proofs.Checking.{accepted}
use Rattle.residual.specs.declared.arcs.Arc.{Arc}
use Rattle.residual.specs.Laid.{Laid, both_ways, one_way, sink_of, source_of, table_of, with_pipes, with_sinks, with_sources}
use Rattle.residual.proofs.Building.{laid}
use Rattle.residual.proofs.laying.lay.Goals as goal

pub returns-clause-items : goal.returns-clause-items
unfolding table_of
returns-clause-items c =
    let net = flow_of c.args.network in
    c.add_pairs-3.ensures.items (λ _ p. both_ways p) no_pipe (λ i x p e. search rules)
    ∙ ap (λ (l : List Arc). with_pipes l net.pipes (length net.pipes))
    (c.add_pairs-2.ensures.items (λ v c. one_way v (sink_of net.nodes) c) 0 (λ i x p e. search rules)
    ∙ ap (λ (l : List Arc). with_sinks l net.nodes net.sinks (length net.sinks))
    (c.add_pairs.ensures.items (λ v c. one_way (source_of net.nodes) v c) 0 (λ i x p e. search rules)
    ∙ ap (λ (l : List Arc). with_sources l net.nodes net.sources (length net.sources)) c.clear.ensures.items))

pub returns-clause-laid : goal.returns-clause-laid
returns-clause-laid c =
    let net = flow_of c.args.network in
    subst (Laid net) (sym (returns-clause-items c)) (laid net net.nodes (accepted net net.nodes c.requires.accepted))
