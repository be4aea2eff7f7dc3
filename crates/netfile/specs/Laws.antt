-- Laws of the network file.
-- Assumes nothing.
use Rattle.std.specs.Prelude.{◌≡◌, ℕ, ◌+◌, ◌*◌, ◌<◌, ◌↔◌, List, [], length, Some, None, Ok, Option, slice_index_or}
use Rattle.faults.specs.Faults.{file_fault}
use Rattle.faults.specs.declared.fault.Fault.{Fault}
use Rattle.network.specs.Limits.{WithinLimits}
use Rattle.network.specs.Net.{Net}
use Rattle.netfile.specs.Format.{Bytes, file_of}
use Rattle.netfile.specs.Meaning.{first_fault, meaning}

-- a network written to a file loads as itself
abbrev pub WrittenLoadsAsItself : Type 0
WrittenLoadsAsItself = (net : Net) → WithinLimits net → meaning (file_of net) ≡ Ok net

-- an accepted file is written back byte by byte
abbrev pub AcceptedIsWrittenBack : Type 0
AcceptedIsWrittenBack = (file : List ℕ) (net : Net) → Bytes file → meaning file ≡ Ok net → file_of net ≡ file

-- the file of a network within the limits is a list of bytes
abbrev pub WrittenInBytes : Type 0
WrittenInBytes = (net : Net) → WithinLimits net → Bytes (file_of net)

-- a list of bytes is accepted as a network exactly where it is the file of that network, and the network is within the limits
abbrev pub AcceptedExactly : Type 0
AcceptedExactly = (file : List ℕ) (net : Net) → Bytes file → (meaning file ≡ Ok net) ↔ (WithinLimits net × (file_of net ≡ file))

-- the fault f is that of the first faulty record, at the place of its first byte
pub record OfFirstFaulty (fault : List ℕ → Option Fault) (size place : ℕ) (records : List (List ℕ)) (f : Fault) : Type 0 where
  pub index : ℕ
  pub inside : index < length records
  pub reason : Fault
  pub due : fault (slice_index_or records index []) ≡ Some reason
  pub named : f ≡ file_fault reason.refusal (place + size * index)
  pub earlier : (i : ℕ) → i < index → fault (slice_index_or records i []) ≡ None

-- records are refused exactly by the fault of the first faulty one
abbrev pub FirstFaultyRecord : Type 0
FirstFaultyRecord =
    (fault : List ℕ → Option Fault) (size place : ℕ) (records : List (List ℕ)) (f : Fault) →
    (first_fault fault size place records ≡ Some f) ↔ OfFirstFaulty fault size place records f
