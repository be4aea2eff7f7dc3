use Rattle.network.proofs.Accepting.{accepted_within_limits}
use Rattle.network.proofs.laws.edit_law.Goals as goal

pub returns : goal.returns
returns c = accepted_within_limits
