use Rattle.network.proofs.Boards.{worked}
use Rattle.network.proofs.laws.worked_boards.Goals as goal

pub returns : goal.returns
returns c = worked
