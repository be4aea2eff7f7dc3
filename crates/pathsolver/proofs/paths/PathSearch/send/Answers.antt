use Rattle.std.proofs.Common.{◌≡◌, ℕ, ◌+◌, List, sym, subst, arith}
use Rattle.residual.specs.declared.arcs.Arc.{Arc}
use Rattle.residual.specs.Arcs.{Moved}
use Rattle.residual.specs.Laid.{sink_of, source_of, vertices}
use Rattle.pathsolver.specs.Sending.{Augmented}
use Rattle.pathsolver.proofs.Sending.{Sent, identity, most_le, sent_more}
use Rattle.pathsolver.proofs.paths.PathSearch.send.Goals as goal

-- what one path has sent
path : (c : goal.In-Some) → Augmented (vertices c.args.graph.now.nodes) (source_of c.args.graph.now.nodes) (sink_of c.args.graph.now.nodes) c.loop-room.graph.arcs.items c.advance.new.graph.arcs.items c.in-Some.room
path c =
    subst (λ (n : ℕ). Augmented (vertices n) (source_of n) (sink_of n) c.loop-room.graph.arcs.items c.advance.new.graph.arcs.items c.in-Some.room)
    c.loop-room.invariant.0 c.in-Some.ensures.goal

-- what has been sent after this turn
sent : (c : goal.In-Some) → Sent c.args.graph.now.arcs.items c.advance.new.graph.arcs.items (source_of c.args.graph.now.nodes) (sink_of c.args.graph.now.nodes) (c.loop-room.sent + c.in-Some.room)
sent c =
    sent_more c.args.graph.now.arcs.items c.loop-room.graph.arcs.items c.advance.new.graph.arcs.items _ _ c.loop-room.sent c.in-Some.room
    (λ e. omega arith) c.loop-room.invariant.2 (path c).moved

pub overflow_add-sent : goal.overflow_add-sent
overflow_add-sent c = omega (arith, (sent c).small, most_le c.args.graph.now.arcs.items (source_of c.args.graph.now.nodes), c.args.graph.now.table.small)

pub loop-room-smaller : goal.loop-room-smaller
loop-room-smaller c = omega (arith, (sent c).small, (path c).some)

pub returns-clause-identity : goal.returns-clause-identity
returns-clause-identity c =
    let n = c.args.graph.now.nodes in
    let old = c.args.graph.now.arcs.items in
    let same : c.advance.new.graph.arcs.items ≡ c.loop-room.graph.arcs.items = c.in_default.ensures.goal.0 in
    let moved = subst (λ (l : List Arc). Moved old l (source_of n) (sink_of n) c.loop-room.sent) (sym same) c.loop-room.invariant.2 in
    identity (vertices n) old c.advance.new.graph.arcs.items (source_of n) (sink_of n) c.loop-room.sent (omega arith) moved
