-- The meaning of a solver: what it answers and marks, for every flow network and every marks buffer.
-- Assumes nothing.
use Rattle.std.specs.Prelude.{◌≡◌, ℕ, ◌^◌, ◌<◌, ◌≤◌, Bool, not, ◌||◌, List, length, Some, None, Ok, Err, Option, Result, ◌==◌, nat_lt, slice_index}
use Rattle.faults.specs.Faults.{solver_fault}
use Rattle.faults.specs.declared.fault.Fault.{Fault}
use Rattle.faults.specs.declared.refusal.Refusal.TheVariants.{BadFlowNetwork, CapacityTooLarge}
use Rattle.network.specs.Limits.{max_nodes, max_pipes}
use Rattle.network.specs.Net.{set_of}
use Rattle.network.specs.Refusals.{fault_if}
use Rattle.mincut.specs.Flow.{Flow, SmallestCut, capacity, some_bad_pipe, total_capacity}

abbrev pub max_capacity : ℕ
max_capacity = 2 ^ 62

-- a count is over its limit, a list or the marks buffer has the wrong length, or a pipe's end is missing or doubled
abbrev pub misshapen : Flow → ℕ → Bool
misshapen net marks =
    nat_lt max_nodes net.nodes
    || (nat_lt max_pipes (length net.pipes)
    || (not (length net.sources == net.nodes)
    || (not (length net.sinks == net.nodes)
    || (not (marks == net.nodes) || some_bad_pipe net.nodes net.pipes))))

-- the refusal that is due, if one is, with a marks buffer of this length
abbrev pub cut_refusal : Flow → ℕ → Option Fault
cut_refusal net marks =
    fault_if (misshapen net marks) (solver_fault BadFlowNetwork)
    (fault_if (nat_lt max_capacity (total_capacity net)) (solver_fault CapacityTooLarge) None)

-- the marks are one for each node, 0 or 1, and stand for the smallest minimum cut; c is its capacity
pub record Solved (net : Flow) (marks : List ℕ) (c : ℕ) : Type 0 where
  pub long : length marks ≡ net.nodes
  pub bits : (v : ℕ) → v < net.nodes → slice_index marks v ≤ 1
  pub cut : SmallestCut net (set_of marks)
  pub value : c ≡ capacity net (set_of marks)

-- what a solver that was given the marks `before` answers, and the marks `after` that it leaves:
-- the refusal that is due, and the marks as they were; or, where none is due, the smallest minimum cut
abbrev pub Answers : Flow → List ℕ → Result ℕ Fault → List ℕ → Type 0
Answers net before (Ok c) after = (cut_refusal net (length before) ≡ None) × Solved net after c
Answers net before (Err f) after = (cut_refusal net (length before) ≡ Some f) × (after ≡ before)
