use Rattle.std.proofs.Common.{arith}
use Rattle.std.proofs.lemmas.Grind.{common_steps}
use Rattle.network.specs.Scores.{denominator, remainder}
use Rattle.network.proofs.Products.{product_fits}
use Rattle.network.proofs.node_set.NodeSet.denominator.Goals as goal

pub returns : goal.returns
unfolding denominator remainder
returns c = grind (arith, common_steps, product_fits)
