use Rattle.std.proofs.Common.{◌≡◌, ◌-◌, ◌^◌, min, sum, sum_by, rules}
use Rattle.mincut.specs.Flow.{total_capacity}
use Rattle.mincut.proofs.flow.FlowNetwork.total_capacity.Goals as goal

pub returns : goal.returns
unfolding total_capacity
returns c =
    let sources : c.saturating_sum.result ≡ min (sum c.args.self.sources.now) (2 ^ 64 - 1) = search rules in
    let sinks : c.saturating_sum-2.result ≡ min (sum c.args.self.sinks.now) (2 ^ 64 - 1) = search rules in
    let pipes : c.saturating_sum-3.result ≡ min (sum_by (λ p. p.cost) c.args.self.pipes.now) (2 ^ 64 - 1) = search rules in
    search rules
