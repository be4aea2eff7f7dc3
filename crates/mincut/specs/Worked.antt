-- Flow networks worked by hand, as statements about the definitions.
-- Assumes nothing.
use Rattle.std.specs.Prelude.{◌≡◌, ℕ, ◌^◌, [], ◌∷◌, Some, None}
use Rattle.faults.specs.Faults.{solver_fault}
use Rattle.faults.specs.declared.refusal.Refusal.TheVariants.{BadFlowNetwork, CapacityTooLarge}
use Rattle.network.specs.Net.{set_of}
use Rattle.network.specs.Worked.{pipe}
use Rattle.mincut.specs.Flow.{Flow, MinimumCut, SmallestCut, capacity}
use Rattle.mincut.specs.Solver.{cut_refusal}

-- four nodes in a line
abbrev pub line : Flow
line = record {
  nodes = 4;
  sources = 6 ∷ 0 ∷ 6 ∷ 0 ∷ [];
  sinks = 0 ∷ 6 ∷ 0 ∷ 6 ∷ [];
  pipes = pipe 0 1 4 ∷ pipe 1 2 4 ∷ pipe 2 3 4 ∷ [];
}

-- one node with the source capacity 2^62 and the sink capacity c
abbrev pub large : ℕ → Flow
large c = record { nodes = 1; sources = 2 ^ 62 ∷ []; sinks = c ∷ []; pipes = [] }

pub record Worked : Type 0 where
  -- on the line the capacities of the empty set, {0}, {0, 2} and {0, 1, 2}
  pub nothing : capacity line (set_of (0 ∷ 0 ∷ 0 ∷ 0 ∷ [])) ≡ 12
  pub first : capacity line (set_of (1 ∷ 0 ∷ 0 ∷ 0 ∷ [])) ≡ 10
  pub apart : capacity line (set_of (1 ∷ 0 ∷ 1 ∷ 0 ∷ [])) ≡ 12
  pub front : capacity line (set_of (1 ∷ 1 ∷ 1 ∷ 0 ∷ [])) ≡ 10
  -- {0} and {0, 1, 2} are minimum cuts, and {0} is the smallest
  pub smallest : SmallestCut line (set_of (1 ∷ 0 ∷ 0 ∷ 0 ∷ []))
  pub larger : MinimumCut line (set_of (1 ∷ 1 ∷ 1 ∷ 0 ∷ []))
  -- the line with a marks buffer of the right length, and with one mark too few
  pub fits : cut_refusal line 4 ≡ None
  pub short : cut_refusal line 3 ≡ Some (solver_fault BadFlowNetwork)
  -- the largest sum of the capacities, and one more; a wrong length is tested before the sum
  pub full : cut_refusal (large 0) 1 ≡ None
  pub over : cut_refusal (large 1) 1 ≡ Some (solver_fault CapacityTooLarge)
  pub both : cut_refusal (large 1) 2 ≡ Some (solver_fault BadFlowNetwork)
