use Rattle.residual.proofs.Cutting.{reached_is_smallest}
use Rattle.residual.proofs.laws.reached_is_smallest.Goals as goal

pub returns : goal.returns
returns c = reached_is_smallest
