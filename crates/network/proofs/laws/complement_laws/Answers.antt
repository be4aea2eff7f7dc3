use Rattle.network.proofs.Denominators.{boundary_of_complement}
use Rattle.network.proofs.Weights.{sides_make_the_whole}
use Rattle.network.proofs.laws.complement_laws.Goals as goal

pub returns : goal.returns
returns c = record { weight = sides_make_the_whole; boundary = boundary_of_complement }
