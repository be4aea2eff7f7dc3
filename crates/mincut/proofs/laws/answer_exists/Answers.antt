use Rattle.mincut.proofs.Existing.{answer_exists}
use Rattle.mincut.proofs.laws.answer_exists.Goals as goal

pub returns : goal.returns
returns c = answer_exists
