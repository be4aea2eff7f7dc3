-- Laws of minimum cuts and of their solvers.
-- Assumes nothing.
use Rattle.std.specs.Prelude.{◌≡◌, ℕ, ◌<◌, List, Result}
use Rattle.faults.specs.declared.fault.Fault.{Fault}
use Rattle.network.specs.Net.{Nodes}
use Rattle.mincut.specs.Flow.{Flow, SmallestCut}
use Rattle.mincut.specs.Solver.{Answers}

-- two smallest minimum cuts have the same nodes, of those that there are
abbrev pub UniqueCut : Type 0
UniqueCut = (net : Flow) (M N : Nodes) → SmallestCut net M → SmallestCut net N → (v : ℕ) → v < net.nodes → M v ≡ N v

-- two solvers that are given the same flow network and the same marks answer the same and leave the same marks
abbrev pub OneAnswer : Type 0
OneAnswer =
    (net : Flow) (before after other : List ℕ) (r s : Result ℕ Fault)
    → Answers net before r after → Answers net before s other → (r ≡ s) × (after ≡ other)

-- every flow network with every marks buffer has an answer
abbrev pub AnswerExists : Type 0
AnswerExists = (net : Flow) (before : List ℕ) → (r : Result ℕ Fault) × (after : List ℕ) × Answers net before r after
