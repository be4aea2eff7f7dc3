-- What waits in a queue.
-- Assumes nothing.
use Rattle.std.specs.Prelude.{ℕ, List, length}
use Rattle.std.specs.List.{between}
use Rattle.residual.specs.declared.queue.Queue.{Queue}

-- what waits, the next one first
abbrev pub waiting : {X : Type 0} → Queue X → List X
waiting q = between q.head q.tail q.slots.now

-- how many slots there are
abbrev pub room : {X : Type 0} → Queue X → ℕ
room q = length q.slots.now
