use Rattle.std.proofs.Common.{◌≡◌, ◌≤◌, ◌<◌, length, get_or, Some, None, ap, arith, rules}
use Rattle.residual.specs.Star.{ahead}
use Rattle.residual.proofs.Indexing.{next_under}
use Rattle.residual.proofs.graph.leaving.steps.LeavingIterator.next.Goals as goal
use Rattle.residual.proofs.graph.leaving.steps.LeavingIterator.next.Goals.{In_ok-k}

-- the arc it was at, and the one it goes on to
step : (c : In_ok-k) → (c.args.self.now.next ≡ Some c.in_ok-k.k) × (ahead (get_or c.args.self.now.graph.star.nexts.now c.in_ok-k.k None) ≤ c.in_ok-k.k)
step c =
    let graph = c.args.self.now.graph in
    let was : c.args.self.now.next ≡ Some c.in_ok-k.k = search rules in
    let lt : c.in_ok-k.k < length graph.arcs.now = omega (arith, ap ahead was, c.args.self.now.within) in
    (was, next_under graph.arcs.now graph.star.heads.now graph.star.nexts.now _ graph.indexed lt)

pub invariant_of-self : goal.invariant_of-self
invariant_of-self c =
    let s = step (goal.at.invariant_of-self c).In_ok-k in
    record { within = omega (arith, s.1, ap ahead s.0, c.args.self.now.within) }

pub returns-clause-goes : goal.returns-clause-goes
returns-clause-goes c =
    let s = step (goal.at.returns-clause-goes c).In_ok-k in
    record { on = λ _. (tt, tt, omega (arith, s.1, ap ahead s.0)); keeps = tt; rests = λ _. tt }
