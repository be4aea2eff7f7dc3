use Rattle.std.proofs.Common.{◌<◌, ℕ, Bool, true, false, List, length, get_or, set, Option, sym, refl, ap, ◌∙◌, subst, arith, length-set, rules}
use Rattle.std.proofs.lemmas.Bool.{lt-ltb, ltb-false, ltb-true}
use Rattle.residual.specs.declared.graph.leaving.Leaving.{Leaving}
use Rattle.residual.specs.declared.graph.lent.LentGraph.{LentGraph}
use Rattle.residual.proofs.Frontier.{Grown, grown_set}
use Rattle.residual.proofs.Searching.{Among, Between, Gone, Popped, all_gone, filled, gone, passes_by, same_graph, sets_out, slot_for, takes_in, to_under, turns_back, turns_to}
use Rattle.residual.proofs.marking.marks.reach.Goals as goal
use Rattle.residual.proofs.marking.marks.reach.Goals.{In-Some-2, else-is_open-via-then-is_open+else-not-seen-arc, else-is_open-via-else-is_open}

-- the arc that this turn of the inner loop looks at
given : (c : In-Some-2) → Gone c.args.graph.arcs.now c.loop-arc.arc-iterator.next c.next.new.self.next c.in-Some-2.field-0-0 c.in-Some-2.arc
given c = gone c.loop-arc.arc-iterator c.next.new.self (ap (λ (g : LentGraph). g.arcs.now) c.loop-arc.invariant.2) c.in-Some-2.ensures.steps

-- what is seen once its end is
grows : (c : In-Some-2) → Grown (λ v. get_or c.loop-arc.seen v false) (λ v. get_or (set c.loop-arc.seen c.in-Some-2.arc.to true) v false) c.in-Some-2.arc.to
grows c =
    let graph = c.args.graph in
    let to = to_under (λ v. v) graph.arcs.now (given c) c.loop-arc.invariant.3 graph.table in
    grown_set (λ b. b) c.loop-arc.seen c.in-Some-2.arc.to true false (omega (arith, to, c.fill.ensures.len, length-set c.fill.new.self c.source-source.result true)) refl

pub loop-vertex-init : goal.loop-vertex-init
loop-vertex-init c =
    let p = c.push.ensures in
    let graph = c.args.graph in
    let source = c.source-source.result in
    let seen : List Bool = set c.fill.new.self source true in
    subst (λ (s : ℕ). Between (λ v. v) graph.arcs.now (length graph.star.heads.now) s (λ v. get_or seen v false) c.push.new.self) c.source-source.ensures
    (sets_out (λ v. v) graph.arcs.now {q = c.new-queue.result}
    (filled c.fill.new.self (length c.args.seen.now) false (c.fill.ensures.after (λ y e. search rules)))
    (grown_set (λ b. b) c.fill.new.self source true false (omega (arith, c.fill.ensures.len, c.source-source.ensures, graph.source)) refl)
    (omega (arith, c.source-source.ensures, graph.source)) (omega (arith, c.new-queue.ensures.room)) c.new-queue.ensures.empty c.new-queue.ensures.start.1 refl
    record { fits = p.fits; queued = p.queued; kept = p.kept; used = p.used; room = p.room })

pub loop-arc-init : goal.loop-arc-init
loop-arc-init c =
    let e = c.in-Some.ensures in
    let arcs = c.args.graph.arcs.now in
    let is = c.into_iter-arc-iterator.ensures.into_iter_gives in
    let p : Popped c.loop-vertex.queue c.pop.new.self c.in-Some.vertex = record { next = e.next; used = e.used; room = e.room } in (
      tt,
      tt,
      ap (λ (i : Leaving). i.graph) is ∙ c.leaving-arc-items.ensures.graph,
      turns_to (λ v. v) arcs _ (ap (λ (i : Leaving). i.next) is ∙ c.leaving-arc-items.ensures.first) p c.loop-vertex.invariant,
    )

pub unwrap-requires-then-not-seen-arc : goal.unwrap-requires-then-not-seen-arc
unwrap-requires-then-not-seen-arc c =
    let graph = c.args.graph in
    let w = (goal.at.unwrap-requires-then-not-seen-arc c).In-Some-2 in
    c.push-then-not-seen-arc.ensures.fits ∙ lt-ltb _ _ (slot_for (λ v. v) graph.arcs.now (given w) c.loop-arc.invariant.3 graph.table (grows w) c.if-not-seen-arc.true)

pub loop-arc-preserved-then-not-seen-arc : goal.loop-arc-preserved-then-not-seen-arc
loop-arc-preserved-then-not-seen-arc c =
    let p = c.push-then-not-seen-arc.ensures in
    let pos : 0 < c.in-Some-2.arc.remaining = omega (arith, ltb-true 0 _ (sym c.if-is_open.ensures)) in
    let graph = c.args.graph in
    let w = (goal.at.loop-arc-preserved-then-not-seen-arc c).In-Some-2 in (
      tt,
      tt,
      same_graph c.loop-arc.arc-iterator c.next.new.self c.loop-arc.invariant.2 c.in-Some-2.ensures.steps,
      takes_in (λ v. v) graph.arcs.now (given w) c.loop-arc.invariant.3 graph.table (grows w) c.if-not-seen-arc.true
          pos refl record { fits = p.fits; queued = p.queued; kept = p.kept; used = p.used; room = p.room },
    )

pub loop-arc-preserved : goal.loop-arc-preserved
loop-arc-preserved c =
    let graph = c.args.graph in
    let w = (goal.at.loop-arc-preserved c).In-Some-2 in (
      tt,
      tt,
      same_graph c.loop-arc.arc-iterator c.next.new.self c.loop-arc.invariant.2 c.in-Some-2.ensures.steps,
      passes_by (λ v. v) graph.arcs.now (given w) c.loop-arc.invariant.3
          (elim c.else-is_open.branch [
            | else-is_open-via-then-is_open+else-not-seen-arc w ↦ λ _. w.if-not-seen-arc.false
            | else-is_open-via-else-is_open w ↦ λ h. absurd (omega (arith, ltb-false 0 _ (sym w.if-is_open.ensures)))
          ]),
    )

pub loop-vertex-preserved : goal.loop-vertex-preserved
loop-vertex-preserved c =
    turns_back (λ v. v) c.args.graph.arcs.now
    (subst (λ (o : Option ℕ). Among (λ v. v) c.args.graph.arcs.now (length c.args.graph.star.heads.now) c.args.graph.nodes (λ v. get_or c.loop-arc.seen v false) c.pop.new.self c.loop-arc.queue c.in-Some.vertex o)
    (all_gone c.loop-arc.arc-iterator c.next.new.self c.in-None.ensures.steps) c.loop-arc.invariant.3)
