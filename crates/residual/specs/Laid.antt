-- The table of arcs of a flow network, before anything was sent.
-- Assumes nothing.
use Rattle.std.specs.Prelude.{◌≡◌, ℕ, zero, suc, ◌+◌, ◌≤◌, true, false, List, [], ◌∷◌, ◌++◌, length, slice_index_or}
use Rattle.network.specs.declared.pipe.Pipe.{Pipe}
use Rattle.mincut.specs.Flow.{Flow, capacity}
use Rattle.network.specs.Limits.{no_pipe}
use Rattle.residual.specs.declared.arcs.Arc.{Arc}
use Rattle.residual.specs.declared.laying.Pair.{Pair}
use Rattle.residual.specs.Arcs.{Table, Vertices, residual}

-- the most arcs that a flow network within the limits has: two for each source capacity, each sink capacity and each pipe
abbrev pub max_arcs : ℕ
max_arcs = 1536

-- the most vertices: the nodes, the source and the sink
abbrev pub max_vertices : ℕ
max_vertices = 130

-- of n nodes the vertices are the nodes, the source and the sink
abbrev pub vertices : ℕ → ℕ
vertices n = n + 2

abbrev pub source_of : ℕ → ℕ
source_of n = n

abbrev pub sink_of : ℕ → ℕ
sink_of n = n + 1

-- X has the source and not the sink
pub record Separates (n : ℕ) (X : Vertices) : Type 0 where
  pub source : X (source_of n) ≡ true
  pub sink : X (sink_of n) ≡ false

-- the table, how long it is at most, and that the residual capacity of a set that has the source and not the sink is its capacity
pub record Laid (net : Flow) (arcs : List Arc) : Type 0 where
  pub few : length arcs ≤ max_arcs
  pub table : Table arcs (vertices net.nodes)
  pub capacities : (X : Vertices) → Separates net.nodes X → residual X arcs ≡ capacity net X

-- an arc and its reverse at the end of a table
abbrev pub with_pair : List Arc → ℕ → ℕ → ℕ → ℕ → List Arc
with_pair arcs from to forth back =
    (arcs ++ record { from = from; to = to; remaining = forth } ∷ []) ++ record { from = to; to = from; remaining = back } ∷ []

-- the table with the pairs that a rule gives for the first i of xs and their numbers
unfoldable pub with_pairs : {X : Type 0} → (ℕ → X → Pair) → X → List Arc → List X → ℕ → List Arc
with_pairs rule d arcs xs zero = arcs
with_pairs rule d arcs xs (suc i) =
    let p = rule i (slice_index_or xs i d) in
    with_pair (with_pairs rule d arcs xs i) p.from p.to p.forth p.back

-- what answers for an item and its number answers the pair that pair_of says
abbrev pub IsRule : {X : Type 0} → (ℕ → X → Pair → Type 0) → (ℕ → X → Pair) → Type 0
IsRule {X} answers pair_of = (i : ℕ) (x : X) (p : Pair) → answers i x p → p ≡ pair_of i x

-- an arc with a capacity, whose reverse can take nothing
abbrev pub one_way : ℕ → ℕ → ℕ → Pair
one_way from to c = record { from = from; to = to; forth = c; back = 0 }

-- the arcs of a pipe, which both have its capacity
abbrev pub both_ways : Pipe ℕ → Pair
both_ways p = record { from = p.first; to = p.second; forth = p.cost; back = p.cost }

-- the table with the arcs from the source to the first i of n nodes, which have the capacities cs
abbrev pub with_sources : List Arc → ℕ → List ℕ → ℕ → List Arc
with_sources arcs n cs i = with_pairs (λ v c. one_way (source_of n) v c) 0 arcs cs i

-- the same with the arcs from the first i nodes to the sink
abbrev pub with_sinks : List Arc → ℕ → List ℕ → ℕ → List Arc
with_sinks arcs n cs i = with_pairs (λ v c. one_way v (sink_of n) c) 0 arcs cs i

-- the same with the first i pipes, each an arc and its reverse that both have the pipe's capacity
abbrev pub with_pipes : List Arc → List (Pipe ℕ) → ℕ → List Arc
with_pipes arcs ps i = with_pairs (λ _ p. both_ways p) no_pipe arcs ps i

-- the table of a flow network: its source capacities, its sink capacities and its pipes
unfoldable pub table_of : Flow → List Arc
table_of net =
    let one = with_sources [] net.nodes net.sources (length net.sources) in
    let two = with_sinks one net.nodes net.sinks (length net.sinks) in
    with_pipes two net.pipes (length net.pipes)
