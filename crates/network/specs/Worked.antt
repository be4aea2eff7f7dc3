-- Boards worked by hand, as statements about the definitions.
-- Assumes nothing.
use Rattle.std.specs.Prelude.{◌≡◌, ℕ, [], ◌∷◌, pos, negsuc, Some, None}
use Rattle.faults.specs.Faults.{board_fault}
use Rattle.faults.specs.declared.refusal.Refusal.TheVariants.{WeightOutOfRange, CostOutOfRange}
use Rattle.network.specs.declared.pipe.Pipe.{Pipe}
use Rattle.network.specs.Edits.{edit_refusal}
use Rattle.network.specs.Edits.Edit.{add, join}
use Rattle.network.specs.Net.{Net, empty, set_of}
use Rattle.network.specs.Scores.{quotient, relative}

abbrev pub pipe : ℕ → ℕ → ℕ → Pipe ℕ
pipe a b c = record { first = a; second = b; cost = c }

-- two triangles of pipes that cost 3, joined by a pipe that costs 1
abbrev pub triangles : Net
triangles = record {
  weights = 1 ∷ 1 ∷ 1 ∷ 1 ∷ 1 ∷ 1 ∷ [];
  pipes = pipe 0 1 3 ∷ pipe 1 2 3 ∷ pipe 0 2 3 ∷ pipe 3 4 3 ∷ pipe 4 5 3 ∷ pipe 3 5 3 ∷ pipe 2 3 1 ∷ [];
}

-- four nodes in a line
abbrev pub line : Net
line = record { weights = 1 ∷ 1 ∷ 1 ∷ 1 ∷ []; pipes = pipe 0 1 1 ∷ pipe 1 2 1 ∷ pipe 2 3 1 ∷ [] }

-- two nodes and no pipe
abbrev pub pair : Net
pair = record { weights = 1 ∷ 1 ∷ []; pipes = [] }

pub record Worked : Type 0 where
  -- two nodes of a triangle as the proposal: its own score, that of the triangle, and that of everything else
  pub corner : relative triangles (set_of (1 ∷ 1 ∷ 0 ∷ 0 ∷ 0 ∷ 0 ∷ [])) (set_of (1 ∷ 1 ∷ 0 ∷ 0 ∷ 0 ∷ 0 ∷ [])) ≡ (6, pos 8)
  pub triangle : relative triangles (set_of (1 ∷ 1 ∷ 0 ∷ 0 ∷ 0 ∷ 0 ∷ [])) (set_of (1 ∷ 1 ∷ 1 ∷ 0 ∷ 0 ∷ 0 ∷ [])) ≡ (1, pos 6)
  pub others : relative triangles (set_of (1 ∷ 1 ∷ 0 ∷ 0 ∷ 0 ∷ 0 ∷ [])) (set_of (0 ∷ 0 ∷ 1 ∷ 1 ∷ 1 ∷ 1 ∷ [])) ≡ (6, negsuc 7)
  pub half : quotient triangles (set_of (1 ∷ 1 ∷ 1 ∷ 0 ∷ 0 ∷ 0 ∷ [])) ≡ (1, 3)
  -- on the line the proposal {0, 2}, and two sets of the same score
  pub apart : relative line (set_of (1 ∷ 0 ∷ 1 ∷ 0 ∷ [])) (set_of (1 ∷ 0 ∷ 1 ∷ 0 ∷ [])) ≡ (3, pos 4)
  pub end : relative line (set_of (1 ∷ 0 ∷ 1 ∷ 0 ∷ [])) (set_of (1 ∷ 0 ∷ 0 ∷ 0 ∷ [])) ≡ (1, pos 2)
  pub front : relative line (set_of (1 ∷ 0 ∷ 1 ∷ 0 ∷ [])) (set_of (1 ∷ 1 ∷ 1 ∷ 0 ∷ [])) ≡ (1, pos 2)
  pub alone : relative pair (set_of (1 ∷ 0 ∷ [])) (set_of (1 ∷ 0 ∷ [])) ≡ (0, pos 1)
  -- no score where a side weighs nothing
  pub nothing : quotient pair (set_of (1 ∷ 1 ∷ [])) ≡ (0, 0)
  -- the largest weight and cost, and one more
  pub heavy : edit_refusal empty (add 4000) ≡ None
  pub heavier : edit_refusal empty (add 4001) ≡ Some (board_fault WeightOutOfRange)
  pub dear : edit_refusal pair (join 0 1 40000) ≡ None
  pub dearer : edit_refusal pair (join 0 1 40001) ≡ Some (board_fault CostOutOfRange)
