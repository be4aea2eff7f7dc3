use Rattle.std.proofs.Common.{◌<◌, ℕ, length, set, Some, None, Option, sym, ap, ◌∙◌, subst, arith, rules}
use Rattle.std.proofs.lemmas.Bool.{lt-ltb, ltb-false, ltb-true}
use Rattle.residual.specs.declared.graph.leaving.Leaving.{Leaving}
use Rattle.residual.specs.Laid.{sink_of, vertices}
use Rattle.residual.proofs.Searching.{Gone, Popped, all_gone, filled, gone, same_arcs}
use Rattle.pathsolver.specs.declared.step.Step.{Step}
use Rattle.pathsolver.proofs.Seeking.{Inside, Outside, closes, ends, finds_slot, goes_by, goes_in, opens, paths_to, starts, step_fits}
use Rattle.pathsolver.proofs.paths.sends.search.Goals as goal
use Rattle.pathsolver.proofs.paths.sends.search.Goals.{In-Some-2, else-is_open-via-then-is_open+else-is_none, else-is_open-via-else-is_open}

-- the arc that this turn of the inner loop looks at
given : (c : In-Some-2) → Gone c.args.graph.now.arcs.items c.loop-k.k-iterator.next c.next.new.self.next c.in-Some-2.k c.in-Some-2.arc
given c = gone c.loop-k.k-iterator c.next.new.self c.loop-k.invariant.2 c.in-Some-2.ensures.steps

pub loop-step-init : goal.loop-step-init
loop-step-init c =
    let p = c.push.ensures in
    let n = c.args.graph.now.nodes in
    let source = c.source-source.result in
    let first : Step = c.start-start.result in
    let is = c.start-start.ensures in
    subst (λ (s : ℕ). Outside c.args.graph.now.arcs.items (vertices n) s (sink_of n) (set c.fill.new.self source (Some first)) c.push.new.self) c.source-source.ensures
    (starts c.fill.new.self first {q = c.new-queue.result}
    (filled c.fill.new.self (length c.args.visits.now) None (c.fill.ensures.after (λ y e. search rules)))
    (omega (arith, c.source-source.ensures)) (omega (arith, c.fill.ensures.len)) (λ e. omega (arith, c.source-source.ensures))
    (ap (λ (s : Step). s.vertex) is) (ap (λ (s : Step). s.via) is) (omega (arith, ap (λ (s : Step). s.room) is)) (ap (λ (s : Step). s.distance) is)
    (omega (arith, c.new-queue.ensures.room)) c.new-queue.ensures.empty c.new-queue.ensures.start.1
    record { fits = p.fits; queued = p.queued; kept = p.kept; used = p.used; room = p.room })

pub loop-k-init : goal.loop-k-init
loop-k-init c =
    let e = c.in-Some.ensures in
    let is = c.into_iter-k-iterator.ensures.into_iter_gives in
    let p : Popped c.loop-step.queue c.pop.new.self c.in-Some.step = record { next = e.next; used = e.used; room = e.room } in (
      tt,
      tt,
      ap (λ (i : Leaving). i.graph.arcs.now) is ∙ c.leaving-k-items.ensures.arcs,
      opens _ (ap (λ (i : Leaving). i.next) is ∙ c.leaving-k-items.ensures.first) p c.loop-step.invariant,
    )

pub onward-found-requires : goal.onward-found-requires
onward-found-requires c =
    let graph = c.args.graph.now in
    let arc = given (goal.at.onward-found-requires c).In-Some-2 in
    omega (arith, step_fits arc c.loop-k.invariant.3 graph.table c.if-is_none.ensures)

pub unwrap-requires-then-is_none : goal.unwrap-requires-then-is_none
unwrap-requires-then-is_none c =
    let graph = c.args.graph.now in
    let arc = given (goal.at.unwrap-requires-then-is_none c).In-Some-2 in
    c.push-then-is_none.ensures.fits ∙ lt-ltb _ _ (finds_slot arc c.loop-k.invariant.3 graph.table c.if-is_none.ensures)

pub loop-k-preserved-then-is_none : goal.loop-k-preserved-then-is_none
loop-k-preserved-then-is_none c =
    let p = c.push-then-is_none.ensures in
    let pos : 0 < c.in-Some-2.arc.remaining = omega (arith, ltb-true 0 _ (sym c.if-is_open.ensures)) in
    let graph = c.args.graph.now in
    let arc = given (goal.at.loop-k-preserved-then-is_none c).In-Some-2 in
    let on = goes_in arc c.loop-k.invariant.3 graph.table c.if-is_none.ensures pos (λ e. c.if-arc-sink.false (sym e ∙ sym c.sink-sink.ensures))
    record { fits = p.fits; queued = rw c.onward-found.ensures at p.queued; kept = p.kept; used = p.used; room = p.room } in (
      tt,
      tt,
      same_arcs c.loop-k.k-iterator c.next.new.self c.loop-k.invariant.2 c.in-Some-2.ensures.steps,
      rw c.onward-found.ensures on,
    )

pub loop-k-preserved : goal.loop-k-preserved
loop-k-preserved c =
    let graph = c.args.graph.now in
    let arc = given (goal.at.loop-k-preserved c).In-Some-2 in (
      tt,
      tt,
      same_arcs c.loop-k.k-iterator c.next.new.self c.loop-k.invariant.2 c.in-Some-2.ensures.steps,
      goes_by arc c.loop-k.invariant.3 graph.table
          (elim c.else-is_open.branch [
            | else-is_open-via-then-is_open+else-is_none w ↦ λ _. w.if-is_none.ensures
            | else-is_open-via-else-is_open w ↦ λ h. absurd (omega (arith, ltb-false 0 _ (sym w.if-is_open.ensures)))
          ]),
    )

pub loop-step-preserved : goal.loop-step-preserved
loop-step-preserved c =
    let graph = c.args.graph.now in
    closes
    (subst (λ (o : Option ℕ). Inside graph.arcs.items (vertices graph.nodes) graph.nodes (sink_of graph.nodes) c.loop-k.visits c.pop.new.self c.loop-k.queue c.in-Some.step o)
    (all_gone c.loop-k.k-iterator c.next.new.self c.in-None.ensures.steps) c.loop-k.invariant.3)

pub returns-then-arc-sink-clause-trail : goal.returns-then-arc-sink-clause-trail
returns-then-arc-sink-clause-trail c =
    let arc = given (goal.at.returns-then-arc-sink-clause-trail c).In-Some-2 in
    let pos : 0 < c.in-Some-2.arc.remaining = omega (arith, ltb-true 0 _ (sym c.if-is_open.ensures)) in
    rw c.onward-found.ensures (paths_to arc c.loop-k.invariant.3 c.args.graph.now.table c.if-is_none.ensures pos).trail

pub returns-in_default-clause-goal : goal.returns-in_default-clause-goal
returns-in_default-clause-goal c = ends c.in_default.ensures.next c.loop-step.invariant
