-- A network as lists, sets of its nodes, and what a set weighs and costs.
-- Assumes nothing.
use Rattle.std.specs.Prelude.{◌≡◌, ℕ, zero, suc, ◌+◌, ◌<◌, min, Bool, true, false, cond, not, ◌&&◌, List, [], length, sum_by, ◌==◌, slice_index}
use Rattle.network.specs.declared.pipe.Pipe.{Pipe}

-- node v weighs what stands at place v
pub record Net : Type 0 where
  pub weights : List ℕ
  pub pipes : List (Pipe ℕ)

abbrev pub empty : Net
empty = record { weights = []; pipes = [] }

-- how many nodes there are
abbrev pub count : Net → ℕ
count net = length net.weights

-- a set of nodes; what it says past the last node never counts
abbrev pub Nodes : Type 0
Nodes = ℕ → Bool

-- the set that marks stand for: for each node, 1 where it is in the set, else 0
abbrev pub set_of : List ℕ → Nodes
set_of marks v = slice_index marks v == 1

-- what a test may answer of each of n nodes is whether the node is in X
abbrev pub Decides : (ℕ → Bool → Type 0) → ℕ → Nodes → Type 0
Decides answers n X = (v : ℕ) (b : Bool) → v < n → answers v b → b ≡ X v

abbrev pub everywhere : Nodes
everywhere v = true

abbrev pub complement : Nodes → Nodes
complement X v = not (X v)

-- the nodes of X that are in Y, and those that are not
abbrev pub within : Nodes → Nodes → Nodes
within Y X v = X v && Y v

abbrev pub without : Nodes → Nodes → Nodes
without Y X v = X v && not (Y v)

-- x where b holds, else 0
abbrev pub when : Bool → ℕ → ℕ
when b x = cond b x 0

-- f 0 + f 1 + .. + f (n - 1)
unfoldable pub below : ℕ → (ℕ → ℕ) → ℕ
below zero f = 0
below (suc n) f = below n f + f n

-- one of the two holds, and not both
abbrev pub exactly_one : Bool → Bool → Bool
exactly_one true y = not y
exactly_one false y = y

-- the pipe has exactly one end in X
abbrev pub crosses : Nodes → Pipe ℕ → Bool
crosses X p = exactly_one (X p.first) (X p.second)

-- what the pipe adds to the boundary cost of X
abbrev pub adds : Nodes → Pipe ℕ → ℕ
adds X p = when (crosses X p) p.cost

-- the weight of the nodes in X, where ws are the weights of all nodes
unfoldable pub weight_in : List ℕ → Nodes → ℕ
weight_in ws X = below (length ws) (λ v. when (X v) (slice_index ws v))

-- the summed cost of the pipes, of ps, with exactly one end in X
unfoldable pub cost_across : List (Pipe ℕ) → Nodes → ℕ
cost_across ps X = sum_by (adds X) ps

module _ (net : Net) where
  abbrev pub weight : Nodes → ℕ
  weight X = weight_in net.weights X

  -- the weight of all nodes
  abbrev pub total : ℕ
  total = weight everywhere

  -- the boundary cost of X
  abbrev pub boundary : Nodes → ℕ
  boundary X = cost_across net.pipes X

  -- the weight of the lighter of the two sides, X and its complement
  unfoldable pub lighter : Nodes → ℕ
  lighter X = min (weight X) (weight (complement X))
