use Rattle.std.proofs.Common.{rules}
use Rattle.network.specs.Net.{set_of, within, without}
use Rattle.network.specs.Scores.{inside, outside}
use Rattle.network.proofs.node_set.NodeSet.parts.Goals as goal

pub returns-clause-inside : goal.returns-clause-inside
unfolding inside
returns-clause-inside c = c.weights_where.ensures.first_value (within (set_of c.args.proposal.now.marks.now) (set_of c.args.self.now.marks.now)) (search rules)

pub returns-clause-outside : goal.returns-clause-outside
unfolding outside
returns-clause-outside c = c.weights_where.ensures.second_value (without (set_of c.args.proposal.now.marks.now) (set_of c.args.self.now.marks.now)) (search rules)
