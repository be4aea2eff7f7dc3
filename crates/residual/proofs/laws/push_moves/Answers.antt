use Rattle.residual.proofs.Pushing.{push_moves}
use Rattle.residual.proofs.laws.push_moves.Goals as goal

pub returns : goal.returns
returns c = push_moves
