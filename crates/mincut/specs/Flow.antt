-- A flow network as lists, and the capacity of a set of its nodes.
-- Assumes nothing.
use Rattle.std.specs.Prelude.{◌≡◌, ℕ, ◌+◌, ◌<◌, ◌≤◌, Bool, true, List, sum_by, sum, Contains}
use Rattle.std.specs.List.{list_any}
use Rattle.network.specs.Edits.{bad_ends}
use Rattle.network.specs.Net.{Nodes, complement, cost_across, weight_in as sum_in}
use Rattle.network.specs.declared.pipe.Pipe.{Pipe}

-- how many nodes there are, the capacity from the source to each, the capacity from each to the sink, and the pipes
pub record Flow : Type 0 where
  pub nodes : ℕ
  pub sources : List ℕ
  pub sinks : List ℕ
  pub pipes : List (Pipe ℕ)

-- the capacity of X: the sink capacities inside it, the source capacities outside it, and those of the pipes that cross
-- it, whose capacity is what they cost to cut
unfoldable pub capacity : Flow → Nodes → ℕ
capacity net X = sum_in net.sinks X + sum_in net.sources (complement X) + cost_across net.pipes X

-- what all capacities sum to
unfoldable pub total_capacity : Flow → ℕ
total_capacity net = sum net.sources + sum net.sinks + sum_by (λ p. p.cost) net.pipes

-- the ends of the pipe are not two different nodes of the n that there are
abbrev pub bad_pipe : ℕ → Pipe ℕ → Bool
bad_pipe n p = bad_ends n p.first p.second

abbrev pub some_bad_pipe : ℕ → List (Pipe ℕ) → Bool
some_bad_pipe n ps = list_any (bad_pipe n) ps

-- what a rule may answer of each element of xs is the element's amount
abbrev pub Measures : {X : Type 0} → (X → ℕ → Type 0) → List X → (X → ℕ) → Type 0
Measures answers xs amount = (x : _) (r : ℕ) → Contains xs x → answers x r → r ≡ amount x

-- no set has a smaller capacity than M
abbrev pub MinimumCut : Flow → Nodes → Type 0
MinimumCut net M = (Y : Nodes) → capacity net M ≤ capacity net Y

-- each of the first n nodes that is in X is in Y
abbrev pub Contained : ℕ → Nodes → Nodes → Type 0
Contained n X Y = (v : ℕ) → v < n → X v ≡ true → Y v ≡ true

-- M is a minimum cut, and contained in every minimum cut
pub record SmallestCut (net : Flow) (M : Nodes) : Type 0 where
  pub least : MinimumCut net M
  pub smallest : (Y : Nodes) → MinimumCut net Y → Contained net.nodes M Y
