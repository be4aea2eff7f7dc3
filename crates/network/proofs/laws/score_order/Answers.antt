use Rattle.network.proofs.Ordering.{scores_ordered}
use Rattle.network.proofs.laws.score_order.Goals as goal

pub returns : goal.returns
returns c = scores_ordered
