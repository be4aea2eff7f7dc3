use Rattle.std.proofs.Common.{◌≡◌, ◌+◌, ◌^◌, ◌<◌, Bool, cond, length, sum_by, arith, rules}
use Rattle.std.proofs.iter.Yields.{nat_range_steps}
use Rattle.std.proofs.lemmas.Fn.{fold_over}
use Rattle.std.proofs.lemmas.Iterator.{YieldsList-from_range}
use Rattle.network.proofs.Adding.{Tally, tally_none, tally_more, tally_all, each_node, numbers, serves_from_totals, weight_at, weights_fit}
use Rattle.network.proofs.network.Network.weights_where.Goals as goal

pub fold-requires-clause-callable : goal.fold-requires-clause-callable
fold-requires-clause-callable g c =
    let ws = c.args.self.now.weights.items in
    let fits : sum_by (weight_at ws) (numbers ws) < 2 ^ 32 = omega (arith, weights_fit ws _ c.args.self.now.limits) in
    serves_from_totals (YieldsList-from_range 0 (length ws) (length ws) (cc) (omega arith)) (λ v. v < length ws) (each_node ws (λ v. v < length ws) (λ v l. l)) (weight_at ws)
    (λ m n v q r. search rules) (λ m n v l room also. search rules)

pub returns : goal.returns
returns g c =
    let ws = c.args.self.now.weights.items in
    let all = YieldsList-from_range {s = record { start = 0; end = length c.as_slice-weights.result.now }} 0 (length ws) (length ws) (cc) (omega arith) in
    let one = goal.F-post g c.args.first in
    let other = goal.G-post g c.args.second in
    let tallies = fold_over nat_range_steps (λ v. v) _ (λ nodes totals. Tally ws one nodes totals.0 × Tally ws other nodes totals.1) _
    (λ nodes a v b f t k.
    let said : (r : Bool) × one v r × (b.0 ≡ cond r (a.0 + weight_at ws v) a.0) = search rules in
    let also : (r : Bool) × other v r × (b.1 ≡ cond r (a.1 + weight_at ws v) a.1) = search rules in
    ((tally_more ws _ nodes _ _ _ said.0 said.1 said.2 t.0, tally_more ws _ nodes _ _ _ also.0 also.1 also.2 t.1), search rules))
    _ _ _ _ all.runs (tally_none ws _, tally_none ws _) c.fold.ensures.ran in
    let most = weights_fit ws _ c.args.self.now.limits in
    record {
      first_value = tally_all ws _ _ tallies.0;
      second_value = tally_all ws _ _ tallies.1;
      bounds = (omega (arith, tallies.0.bound, most), omega (arith, tallies.1.bound, most));
    }
