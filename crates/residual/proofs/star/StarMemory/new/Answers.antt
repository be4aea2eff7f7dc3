use Rattle.std.proofs.Common.{rules}
use Rattle.residual.specs.Laid.{max_vertices}
use Rattle.residual.proofs.Indexing.{indexed_none}
use Rattle.residual.proofs.star.StarMemory.new.Goals as goal

pub returns : goal.returns
returns c = indexed_none max_vertices _ _ (c.in_ok-vec.ensures.items_if_clones_equal (λ y e. search rules))
