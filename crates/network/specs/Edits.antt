-- The edits of a network: which of them are refused, and what the others make of it.
-- Assumes nothing.
use Rattle.std.specs.Prelude.{ℕ, Bool, ◌||◌, [], ◌∷◌, ◌++◌, length, None, Option, Result, ◌==◌, nat_le, nat_lt, slice_set}
use Rattle.std.specs.List.{remove as removed}
use Rattle.faults.specs.declared.fault.Fault.{Fault}
use Rattle.faults.specs.declared.refusal.Refusal.TheVariants.{TooManyNodesOrPipes, WeightOutOfRange, BadNodeOrPipe, CostOutOfRange}
use Rattle.network.specs.declared.pipe.Pipe.{Pipe}
use Rattle.network.specs.Limits.{max_nodes, max_pipes, min_weight, max_weight, min_cost, max_cost}
use Rattle.network.specs.Net.{Net, count}
use Rattle.network.specs.Refusals.{refuse_if, or_else, unless, answer}

-- a new node of a weight; a node's new weight; a pipe between two nodes at a cost; a pipe taken out
pub data Edit : Type 0 where
  add : ℕ → Edit
  weigh : ℕ → ℕ → Edit
  join : ℕ → ℕ → ℕ → Edit
  remove : ℕ → Edit

abbrev pub outside_limits : ℕ → ℕ → ℕ → Bool
outside_limits low high x = nat_lt x low || nat_lt high x

-- of n nodes, an end does not exist, or both ends are the same node
abbrev pub bad_ends : ℕ → ℕ → ℕ → Bool
bad_ends n a b = nat_le n a || (nat_le n b || a == b)

-- the fault of a node's weight, if it has one
abbrev pub weight_fault : ℕ → Option Fault
weight_fault w = refuse_if (outside_limits min_weight max_weight w) WeightOutOfRange None

-- the fault of a pipe between nodes of the n that there are, if it has one
abbrev pub pipe_fault : ℕ → Pipe ℕ → Option Fault
pipe_fault n p =
    refuse_if (bad_ends n p.first p.second) BadNodeOrPipe
    (refuse_if (outside_limits min_cost max_cost p.cost) CostOutOfRange None)

-- the first refusal that is due, if one is
abbrev pub edit_refusal : Net → Edit → Option Fault
edit_refusal net (add w) = refuse_if (nat_le max_nodes (count net)) TooManyNodesOrPipes (weight_fault w)
edit_refusal net (weigh v w) = or_else (weight_fault w) (refuse_if (nat_le (count net) v) BadNodeOrPipe None)
edit_refusal net (join a b c) =
    refuse_if (nat_le max_pipes (length net.pipes)) TooManyNodesOrPipes
    (pipe_fault (count net) (record { first = a; second = b; cost = c }))
edit_refusal net (remove p) = refuse_if (nat_le (length net.pipes) p) BadNodeOrPipe None

-- the network that an accepted edit makes; a pipe taken out lowers the number of each later one by 1
abbrev pub edited : Net → Edit → Net
edited net (add w) = record { weights = net.weights ++ w ∷ []; pipes = net.pipes }
edited net (weigh v w) = record { weights = slice_set net.weights v w; pipes = net.pipes }
edited net (join a b c) = record { weights = net.weights; pipes = net.pipes ++ record { first = a; second = b; cost = c } ∷ [] }
edited net (remove p) = record { weights = net.weights; pipes = removed net.pipes p }

-- the network after the edit, refused or not
abbrev pub after_edit : Net → Edit → Net
after_edit net e = unless (edit_refusal net e) net (edited net e)

-- what an edit answers: the number of a new node or pipe, and else bare acceptance
abbrev pub add_answer : Net → ℕ → Result ℕ Fault
add_answer net w = answer (edit_refusal net (add w)) (count net)

abbrev pub weigh_answer : Net → ℕ → ℕ → Result (Unit {0}) Fault
weigh_answer net v w = answer (edit_refusal net (weigh v w)) tt

abbrev pub join_answer : Net → ℕ → ℕ → ℕ → Result ℕ Fault
join_answer net a b c = answer (edit_refusal net (join a b c)) (length net.pipes)

abbrev pub remove_answer : Net → ℕ → Result (Unit {0}) Fault
remove_answer net p = answer (edit_refusal net (remove p)) tt
