-- How a call comes to its refusal, or to its answer.
-- Assumes nothing.
use Rattle.std.specs.Prelude.{Bool, true, false, Some, None, Ok, Err, Option, Result}
use Rattle.faults.specs.Faults.{board_fault}
use Rattle.faults.specs.declared.fault.Fault.{Fault}
use Rattle.faults.specs.declared.refusal.Refusal.{Refusal}

-- the fault f where the condition holds, else what comes later in the order of tests
abbrev pub fault_if : Bool → Fault → Option Fault → Option Fault
fault_if true f later = Some f
fault_if false f later = later

-- the same with the refusal r as a fault of the board
abbrev pub refuse_if : Bool → Refusal → Option Fault → Option Fault
refuse_if b r later = fault_if b (board_fault r) later

-- what a call answers: the fault that is due, or else x
abbrev pub answer : {T : Type 0} → Option Fault → T → Result T Fault
answer (Some f) x = Err f
answer None x = Ok x

-- what a state is after a call: as before where a fault is due, or else y
abbrev pub unless : {S : Type 0} → Option Fault → S → S → S
unless (Some f) x y = x
unless None x y = y

-- the first fault, or else the second
abbrev pub or_else : Option Fault → Option Fault → Option Fault
or_else (Some f) later = Some f
or_else None later = later
