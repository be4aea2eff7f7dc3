-- The limits of a network. The network's type imports this file, so it cannot name that type.
-- Assumes nothing.
use Rattle.std.specs.Prelude.{ℕ, ◌<◌, ◌≤◌, List, length, ◌≢◌, slice_index, slice_index_or}
use Rattle.network.specs.declared.pipe.Pipe.{Pipe}
use Rattle.network.specs.Net.{Net}

abbrev pub max_nodes : ℕ
max_nodes = 128

abbrev pub max_pipes : ℕ
max_pipes = 512

abbrev pub min_weight : ℕ
min_weight = 1

abbrev pub max_weight : ℕ
max_weight = 4000

abbrev pub min_cost : ℕ
min_cost = 1

abbrev pub max_cost : ℕ
max_cost = 40000

-- what stands for a pipe past the last one; it is no pipe, since its ends are one node
abbrev pub no_pipe : Pipe ℕ
no_pipe = record { first = 0; second = 0; cost = 0 }

abbrev pub WeightFits : ℕ → Type 0
WeightFits w = (min_weight ≤ w) × (w ≤ max_weight)

-- the pipe joins two different nodes of the n that there are, at a cost within its limits
abbrev pub PipeFits : ℕ → Pipe ℕ → Type 0
PipeFits n p = (p.first < n) × (p.second < n) × (p.first ≢ p.second) × (min_cost ≤ p.cost) × (p.cost ≤ max_cost)

abbrev pub WeightsFit : List ℕ → Type 0
WeightsFit ws = (v : ℕ) → v < length ws → WeightFits (slice_index ws v)

abbrev pub PipesFit : ℕ → List (Pipe ℕ) → Type 0
PipesFit n ps = (k : ℕ) → k < length ps → PipeFits n (slice_index_or ps k no_pipe)

-- the limits of a network of nodes with these weights, joined by these pipes
abbrev pub Limits : List ℕ → List (Pipe ℕ) → Type 0
Limits ws ps = (length ws ≤ max_nodes) × (length ps ≤ max_pipes) × WeightsFit ws × PipesFit (length ws) ps

abbrev pub WithinLimits : Net → Type 0
WithinLimits net = Limits net.weights net.pipes
