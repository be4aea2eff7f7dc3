use Rattle.mincut.proofs.Unique.{unique_cut}
use Rattle.mincut.proofs.laws.unique_cut.Goals as goal

pub returns : goal.returns
returns c = unique_cut
