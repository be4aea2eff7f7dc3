use Rattle.mincut.proofs.Working.{worked}
use Rattle.mincut.proofs.laws.worked_cut.Goals as goal

pub returns : goal.returns
returns c = worked
