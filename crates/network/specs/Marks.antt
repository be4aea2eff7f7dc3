-- Marks that stand for a set of nodes, and the fault of those that do not fit.
-- Assumes nothing.
use Rattle.std.specs.Prelude.{ℕ, Bool, true, false, List, length, Some, None, Option, ◌==◌, nat_le}
use Rattle.std.specs.List.{prefix_len}
use Rattle.faults.specs.Faults.{fault_at}
use Rattle.faults.specs.declared.fault.Fault.{Fault}
use Rattle.faults.specs.declared.layer.Layer.TheVariants.{Board}
use Rattle.faults.specs.declared.refusal.Refusal.TheVariants.{BadMarks}

-- a mark is 0 or 1
abbrev pub is_mark : ℕ → Bool
is_mark m = nat_le m 1

abbrev pub bad_marks : ℕ → Fault
bad_marks place = fault_at BadMarks Board place

-- by whether they are as many as the nodes, and whether each is a mark
abbrev pub marks_fault_by : Bool → Bool → List ℕ → Option Fault
marks_fault_by false each marks = Some (bad_marks (length marks))
marks_fault_by true false marks = Some (bad_marks (prefix_len is_mark marks))
marks_fault_by true true marks = None

-- the fault of marks for n nodes, if there is one; its place is how many marks there are, or the first that is neither 0 nor 1
abbrev pub marks_fault : ℕ → List ℕ → Option Fault
marks_fault n marks = marks_fault_by (length marks == n) (prefix_len is_mark marks == length marks) marks
