-- What a list of bytes means as a network file: a network, or the fault for which it is refused.
-- Assumes nothing.
use Rattle.std.specs.Prelude.{ℕ, ◌+◌, min, Bool, if◌then◌else◌, not, ◌&&◌, ◌||◌, List, [], ◌∷◌, map, length, drop, Some, None, Option, Result, ◌==◌, nat_lt, slice_index}
use Rattle.std.specs.Simd.{first_chunks}
use Rattle.faults.specs.Faults.{file_fault}
use Rattle.faults.specs.declared.fault.Fault.{Fault}
use Rattle.faults.specs.declared.refusal.Refusal.{Refusal}
use Rattle.faults.specs.declared.refusal.Refusal.TheVariants.{NotANetworkFile, UnknownVersion, TooManyNodesOrPipes, WrongFileLength}
use Rattle.network.specs.Edits.{weight_fault, pipe_fault}
use Rattle.network.specs.Limits.{max_nodes, max_pipes}
use Rattle.network.specs.Net.{Net}
use Rattle.network.specs.Refusals.{answer, fault_if, or_else}
use Rattle.netfile.specs.Format.{mark, version, version_place, node_count_place, pipe_count_place, header_size, node_size, pipe_size, pipes_place, file_size, number_of, weight_from, pipe_from, net_of}

-- the refusal r at this place of the file where the condition holds, else what comes later in the order of tests
abbrev pub refuse_at : Bool → Refusal → ℕ → Option Fault → Option Fault
refuse_at b r place later = fault_if b (file_fault r place) later

-- a fault of what a record says, as a fault of the file at the place of the record
abbrev pub at_place : ℕ → Option Fault → Option Fault
at_place place (Some f) = Some (file_fault f.refusal place)
at_place place None = None

-- the fault of the first record that has one; the first record begins at this place, and each has so many bytes
unfoldable pub first_fault : (List ℕ → Option Fault) → ℕ → ℕ → List (List ℕ) → Option Fault
first_fault fault size place [] = None
first_fault fault size place (r ∷ rs) = or_else (at_place place (fault r)) (first_fault fault size (place + size) rs)

-- the first fault of the nodes' records
abbrev pub nodes_fault : List (List ℕ) → Option Fault
nodes_fault records = first_fault (λ r. weight_fault (weight_from r)) node_size header_size records

-- the first fault of the pipes' records, where there are n nodes
abbrev pub pipes_fault : ℕ → List (List ℕ) → Option Fault
pipes_fault n records = first_fault (λ r. pipe_fault n (pipe_from r)) pipe_size (pipes_place n) records

-- the first fault of the records, of the nodes and then of the pipes
abbrev pub records_fault : List (List ℕ) → List (List ℕ) → Option Fault
records_fault nodes pipes = or_else (nodes_fault nodes) (pipes_fault (length nodes) pipes)

-- the 16-bit number whose high byte stands at this place
abbrev pub number_at : List ℕ → ℕ → ℕ
number_at file place = number_of (slice_index file place) (slice_index file (place + 1))

module _ (file : List ℕ) where
  -- the file has a byte at this place, and it is not the mark's
  abbrev pub differs : ℕ → Bool
  differs place = nat_lt place (length file) && not (slice_index file place == slice_index mark place)

  -- the file is too short for the leading bytes, or a byte of the mark differs
  abbrev pub unmarked : Bool
  unmarked = nat_lt (length file) header_size || (differs 0 || (differs 1 || differs 2))

  -- the first of bytes 0 to 2 that differs, or else the file's length
  abbrev pub mark_place : ℕ
  mark_place = if differs 0 then 0 else (if differs 1 then 1 else (if differs 2 then 2 else length file))

  abbrev pub node_count : ℕ
  node_count = slice_index file node_count_place

  abbrev pub pipe_count : ℕ
  pipe_count = number_at file pipe_count_place

  -- how long the file should be by its counts
  abbrev pub size_due : ℕ
  size_due = file_size node_count pipe_count

  -- the fault of the leading bytes or of the length, if there is one
  abbrev pub header_fault : Option Fault
  header_fault =
      refuse_at unmarked NotANetworkFile mark_place
      (refuse_at (not (number_at file version_place == version)) UnknownVersion version_place
      (refuse_at (nat_lt max_nodes node_count) TooManyNodesOrPipes node_count_place
      (refuse_at (nat_lt max_pipes pipe_count) TooManyNodesOrPipes pipe_count_place
      (refuse_at (not (length file == size_due)) WrongFileLength (min (length file) size_due) None))))

  -- the records in file order: as many pieces of their size as are counted, one behind the other
  abbrev pub node_records : List (List ℕ)
  node_records = first_chunks node_size node_count (drop header_size file)

  abbrev pub pipe_records : List (List ℕ)
  pipe_records = first_chunks pipe_size pipe_count (drop (pipes_place node_count) file)

  -- the first fault of the file, if there is one
  abbrev pub first_file_fault : Option Fault
  first_file_fault = or_else header_fault (or_else (nodes_fault node_records) (pipes_fault node_count pipe_records))

  -- the network that the records make
  abbrev pub network_in : Net
  network_in = net_of (map weight_from node_records) (map pipe_from pipe_records)

  -- what the file means
  abbrev pub meaning : Result Net Fault
  meaning = answer first_file_fault network_in
