use Rattle.mincut.proofs.Unique.{one_answer}
use Rattle.mincut.proofs.laws.one_answer.Goals as goal

pub returns : goal.returns
returns c = one_answer
