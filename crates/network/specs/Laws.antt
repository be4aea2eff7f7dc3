-- Laws of the edits and of the scores.
-- Assumes nothing.
use Rattle.std.specs.Prelude.{◌≡◌, ℕ, ◌+◌, ◌*◌, ◌<◌, ◌≤◌, ◌⊎◌, ◌↔◌, length, ℤ, pos, ◌+ℤ◌, ◌≤ℤ◌, None}
use Rattle.std.specs.Int.{int_max}
use Rattle.network.specs.Edits.{Edit, edit_refusal, edited}
use Rattle.network.specs.Edits.Edit.{add, weigh, join, remove}
use Rattle.network.specs.Limits.{WithinLimits}
use Rattle.network.specs.Net.{Net, Nodes, count, complement, weight, total, boundary, lighter}
use Rattle.network.specs.Scores.{remainder, denominator, positive_denominator, Finite, AtMost}

-- the node or pipe that the edit changes exists; a new one need not
abbrev pub TargetExists : Net → Edit → Type 0
TargetExists net (add w) = Unit {0}
TargetExists net (weigh v w) = v < count net
TargetExists net (join a b c) = Unit {0}
TargetExists net (remove p) = p < length net.pipes

-- an edit is accepted exactly where what it changes is there and the network that it makes is within the limits
abbrev pub AcceptedWithinLimits : Type 0
AcceptedWithinLimits =
    (net : Net) (e : Edit) → WithinLimits net → (edit_refusal net e ≡ None) ↔ (TargetExists net e × WithinLimits (edited net e))

-- a set and its complement weigh what all nodes weigh
abbrev pub SidesMakeTheWhole : Type 0
SidesMakeTheWhole = (net : Net) (X : Nodes) → weight net X + weight net (complement X) ≡ total net

-- the boundary cost of a set is that of its complement
abbrev pub BoundaryOfComplement : Type 0
BoundaryOfComplement = (net : Net) (X : Nodes) → boundary net (complement X) ≡ boundary net X

-- the denominators of a set and of its complement sum to 0
abbrev pub OppositeDenominators : Type 0
OppositeDenominators = (net : Net) (A X : Nodes) → denominator net A X +ℤ denominator net A (complement X) ≡ pos 0

-- the proposal's own denominator is its weight times that of the remainder, and no set has a larger one
pub record Largest (net : Net) (A : Nodes) : Type 0 where
  pub own : denominator net A A ≡ pos (weight net A * remainder net A)
  pub most : (X : Nodes) → denominator net A X ≤ℤ denominator net A A

abbrev pub LargestDenominator : Type 0
LargestDenominator = (net : Net) (A : Nodes) → Largest net A

-- where the proposal weighs at most the remainder, a denominator is at most the remainder's weight times the lighter side's
abbrev pub WithinLighterSide : Type 0
WithinLighterSide =
    (net : Net) (A X : Nodes) → weight net A ≤ remainder net A → denominator net A X ≤ℤ pos (remainder net A * lighter net X)

-- the natural form of a denominator is its larger with 0
abbrev pub NaturalForm : Type 0
NaturalForm = (net : Net) (A X : Nodes) → pos (positive_denominator net A X) ≡ int_max (pos 0) (denominator net A X)

-- finite relative scores are totally ordered
pub record Ordered (x y z : ℕ × ℤ) : Type 0 where
  pub itself : AtMost x x
  pub either : AtMost x y ⊎ AtMost y x
  pub through : AtMost x y → AtMost y z → AtMost x z

abbrev pub ScoresOrdered : Type 0
ScoresOrdered = (x y z : ℕ × ℤ) → Finite x → Finite y → Finite z → Ordered x y z
