-- What people read of a fault.
-- Assumes nothing.
use Rattle.std.specs.Prelude.{ℕ, List, ◌++◌, codes, decimal}
use Rattle.faults.specs.declared.fault.Fault.{Fault}
use Rattle.faults.specs.declared.layer.Layer.{Layer}
use Rattle.faults.specs.declared.layer.Layer.TheVariants.{Board, File, Solver, Console}
use Rattle.faults.specs.declared.refusal.Refusal.{Refusal}
use Rattle.faults.specs.declared.refusal.Refusal.TheVariants.{NotANetworkFile, UnknownVersion, TooManyNodesOrPipes, WrongFileLength, WeightOutOfRange, BadNodeOrPipe, CostOutOfRange, BadMarks, BadProposal, WrongPhase, NoReleaseLeft, WrongSerial, BufferTooShort, BadFlowNetwork, CapacityTooLarge, NotACommand}
use Rattle.faults.specs.Numbers.{number}

abbrev pub layer_name : Layer → List ℕ
layer_name Board = codes "board"
layer_name File = codes "file"
layer_name Solver = codes "solver"
layer_name Console = codes "console"

abbrev pub wording : Refusal → List ℕ
wording NotANetworkFile = codes "the file has under 8 bytes or does not begin with DZN"
wording UnknownVersion = codes "the file's version is not one that this program reads"
wording TooManyNodesOrPipes = codes "there would be over 128 nodes or over 512 pipes"
wording WrongFileLength = codes "the file's length is not what its counts demand"
wording WeightOutOfRange = codes "a weight is outside 1 to 4000"
wording BadNodeOrPipe = codes "a named node or pipe does not exist, or a pipe's ends are the same node"
wording CostOutOfRange = codes "a cost is outside 1 to 40000"
wording BadMarks = codes "the marks are not as many as the nodes, or one is neither 0 nor 1"
wording BadProposal = codes "the proposal is empty or weighs more than the remainder"
wording WrongPhase = codes "the phase does not allow the call"
wording NoReleaseLeft = codes "the board has given 1000000 releases"
wording WrongSerial = codes "the release's serial number is not the board's"
wording BufferTooShort = codes "an output buffer is too short for the whole output"
wording BadFlowNetwork = codes "a flow network is over the limits, a list or marks buffer has the wrong length, or an end node is missing or doubled"
wording CapacityTooLarge = codes "the capacities of a flow network sum to more than 2^62"
wording NotACommand = codes "the line is over 400 bytes or is no command"

-- the text of a fault, as "the phase does not allow the call (refusal 10, layer board, place 0)"
abbrev pub fault_text : Fault → List ℕ
fault_text f =
    wording f.refusal
    ++ (codes " (refusal " ++ (decimal (number f.refusal) ++ (codes ", layer " ++ (layer_name f.layer ++ (codes ", place " ++ (decimal f.place ++ codes ")"))))))
