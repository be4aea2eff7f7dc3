-- The scores of a set of nodes: the quotient score, and the score relative to a proposal.
-- Assumes nothing.
use Rattle.std.specs.Prelude.{ℕ, ◌-◌, ◌*◌, ℤ, pos, ◌-ℤ◌, ◌*ℤ◌, ◌≤ℤ◌, ◌<ℤ◌}
use Rattle.network.specs.Net.{Net, Nodes, complement, within, without, weight, boundary, lighter}

module _ (net : Net) (A : Nodes) where
  -- the weight of the remainder, which is all that is not in the proposal A
  unfoldable pub remainder : ℕ
  remainder = weight net (complement A)

  -- the weight of the part of X inside A, and of the part outside
  unfoldable pub inside : Nodes → ℕ
  inside X = weight net (within A X)

  unfoldable pub outside : Nodes → ℕ
  outside X = weight net (without A X)

  -- the denominator of X's score relative to A
  unfoldable pub denominator : Nodes → ℤ
  denominator X = pos (remainder * inside X) -ℤ pos (weight net A * outside X)

  -- the denominator where it is positive, else 0, as a natural number
  unfoldable pub positive_denominator : Nodes → ℕ
  positive_denominator X = remainder * inside X - weight net A * outside X

-- the quotient score of X is the first number over the second; there is none where the second is 0
abbrev pub quotient : Net → Nodes → ℕ × ℕ
quotient net X = (boundary net X, lighter net X)

-- the score of X relative to A is the remainder times the first number over the second, where the second is positive, and
-- else infinite; the remainder is the same for all sets, so it plays no part in their order
abbrev pub relative : Net → Nodes → Nodes → ℕ × ℤ
relative net A X = (boundary net X, denominator net A X)

abbrev pub Finite : ℕ × ℤ → Type 0
Finite x = pos 0 <ℤ x.1

-- of two finite relative scores, x is at most y
abbrev pub AtMost : ℕ × ℤ → ℕ × ℤ → Type 0
AtMost x y = (pos x.0 *ℤ y.1) ≤ℤ (pos y.0 *ℤ x.1)
