use Rattle.residual.proofs.Balance.{identity_kept}
use Rattle.residual.proofs.laws.identity_kept.Goals as goal

pub returns : goal.returns
returns c = identity_kept
