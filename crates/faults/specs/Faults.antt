-- A fault as its three parts.
-- Assumes nothing.
use Rattle.std.specs.Prelude.{ℕ}
use Rattle.faults.specs.declared.fault.Fault.{Fault}
use Rattle.faults.specs.declared.layer.Layer.{Layer}
use Rattle.faults.specs.declared.layer.Layer.TheVariants.{Board, File, Solver}
use Rattle.faults.specs.declared.refusal.Refusal.{Refusal}

abbrev pub fault_at : Refusal → Layer → ℕ → Fault
fault_at r l p = record { refusal = r; layer = l; place = p }

-- a fault of a call of the board or of the network below it, with no place of its own
abbrev pub board_fault : Refusal → Fault
board_fault r = fault_at r Board 0

-- a fault of a network file, at a place of the file
abbrev pub file_fault : Refusal → ℕ → Fault
file_fault r place = fault_at r File place

-- a fault of a solver, with no place of its own
abbrev pub solver_fault : Refusal → Fault
solver_fault r = fault_at r Solver 0
