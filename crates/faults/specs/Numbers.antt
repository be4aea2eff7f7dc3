-- The number of each reason for which a call refuses.
-- Assumes nothing.
use Rattle.std.specs.Prelude.{ℕ}
use Rattle.faults.specs.declared.refusal.Refusal.{Refusal}
use Rattle.faults.specs.declared.refusal.Refusal.TheVariants.{NotANetworkFile, UnknownVersion, TooManyNodesOrPipes, WrongFileLength, WeightOutOfRange, BadNodeOrPipe, CostOutOfRange, BadMarks, BadProposal, WrongPhase, NoReleaseLeft, WrongSerial, BufferTooShort, BadFlowNetwork, CapacityTooLarge, NotACommand}

abbrev pub number : Refusal → ℕ
number NotANetworkFile = 1
number UnknownVersion = 2
number TooManyNodesOrPipes = 3
number WrongFileLength = 4
number WeightOutOfRange = 5
number BadNodeOrPipe = 6
number CostOutOfRange = 7
number BadMarks = 8
number BadProposal = 9
number WrongPhase = 10
number NoReleaseLeft = 11
number WrongSerial = 12
number BufferTooShort = 13
number BadFlowNetwork = 14
number CapacityTooLarge = 15
number NotACommand = 16
