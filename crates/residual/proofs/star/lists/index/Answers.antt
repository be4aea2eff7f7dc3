use Rattle.std.proofs.Common.{length, rules}
use Rattle.residual.proofs.Indexing.{listed_none}
use Rattle.residual.proofs.star.lists.index.Goals as goal

pub loop-k-init : goal.loop-k-init
loop-k-init c = listed_none c.args.arcs.now (length c.args.heads.now) c.fill.new.self c.args.nexts.now (c.fill.ensures.after (λ y e. search rules))
