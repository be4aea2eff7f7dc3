use Rattle.std.proofs.Common.{◌≡◌, List, sym, ◌∙◌, subst, Some, rules}
use Rattle.residual.specs.declared.arcs.Arc.{Arc}
use Rattle.residual.specs.Arcs.{pushed}
use Rattle.pathsolver.specs.declared.step.Step.{Step}
use Rattle.pathsolver.specs.Steps.{visit_at}
use Rattle.pathsolver.proofs.Visiting.{same_step, visit_under}
use Rattle.pathsolver.proofs.Walking.{Back, Walk, goes_back}
use Rattle.pathsolver.proofs.paths.sends.augment.Goals as goal
use Rattle.pathsolver.proofs.paths.sends.augment.Goals.{After-arc-from}

-- one arc further back
back : (c : After-arc-from) → Back c.args.graph.now.arcs.items c.loop-step.graph.arcs.items c.args.visits.now c.args.found c.loop-step.step c.in-Some.k
back c = goes_back c.in-Some.k c.loop-step.graph.table c.loop-step.invariant.1 c.requires.trail c.in-Some.is

-- the step that is read there
read : (c : After-arc-from) → visit_at c.args.visits.now c.arc-from.result.from ≡ Some (back c).step_before
read c = (back c).at c.arc-from.result c.arc-from.ensures

pub bounds-visits-from : goal.bounds-visits-from
bounds-visits-from c =
    let w = (goal.at.bounds-visits-from c).After-arc-from in
    visit_under c.args.visits.now c.arc-from.result.from (back w).step_before (read w)

pub loop-step-preserved : goal.loop-step-preserved
loop-step-preserved c =
    let w = (goal.at.loop-step-preserved c).After-arc-from in
    let old = c.args.graph.now.arcs.items in
    let new = c.push.new.self.arcs.items in
    let sent : new ≡ pushed c.loop-step.graph.arcs.items c.in-Some.k c.args.found.room = search rules in
    let is : c.unwrap-step.result ≡ (back w).step_before = same_step (sym c.unwrap-step.ensures ∙ read w) in (
      c.push.ensures.nodes ∙ c.loop-step.invariant.0,
      subst (λ (s : Step). Walk old new c.args.visits.now c.args.found s) (sym is)
          (subst (λ (l : List Arc). Walk old l c.args.visits.now c.args.found (back w).step_before) (sym sent) (back w).walk),
    )
