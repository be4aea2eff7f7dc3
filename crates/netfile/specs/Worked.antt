-- Files worked by hand, as statements about the definitions.
-- Assumes nothing.
use Rattle.std.specs.Prelude.{◌≡◌, ℕ, List, [], ◌∷◌, Ok, Err}
use Rattle.faults.specs.Faults.{file_fault}
use Rattle.faults.specs.declared.refusal.Refusal.TheVariants.{NotANetworkFile, UnknownVersion, TooManyNodesOrPipes, WrongFileLength, WeightOutOfRange, BadNodeOrPipe, CostOutOfRange}
use Rattle.network.specs.Net.{Net, empty}
use Rattle.netfile.specs.Format.{file_of}
use Rattle.netfile.specs.Meaning.{meaning}

-- two nodes of weight 1, and a pipe of cost 5 between them
abbrev pub pair : Net
pair = record { weights = 1 ∷ 1 ∷ []; pipes = record { first = 0; second = 1; cost = 5 } ∷ [] }

-- the file of that network up to its last byte
abbrev pub cut_pair : List ℕ → List ℕ
cut_pair rest = 68 ∷ 90 ∷ 78 ∷ 0 ∷ 1 ∷ 2 ∷ 0 ∷ 1 ∷ 0 ∷ 1 ∷ 0 ∷ 1 ∷ 0 ∷ 1 ∷ 0 ∷ rest

-- a file with the mark, then the low byte of the version, the node count, and the bytes from the pipe count on
abbrev pub marked : ℕ → ℕ → List ℕ → List ℕ
marked version nodes rest = 68 ∷ 90 ∷ 78 ∷ 0 ∷ version ∷ nodes ∷ rest

pub record Worked : Type 0 where
  pub loads : meaning (cut_pair (5 ∷ [])) ≡ Ok pair
  pub written : file_of pair ≡ cut_pair (5 ∷ [])
  pub short : meaning (cut_pair []) ≡ Err (file_fault WrongFileLength 15)
  pub long : meaning (cut_pair (5 ∷ 0 ∷ [])) ≡ Err (file_fault WrongFileLength 16)
  -- no bytes, a mark that is cut off, and one that differs
  pub nothing : meaning [] ≡ Err (file_fault NotANetworkFile 0)
  pub half_a_mark : meaning (68 ∷ 90 ∷ []) ≡ Err (file_fault NotANetworkFile 2)
  pub other_mark : meaning (68 ∷ 65 ∷ 78 ∷ []) ≡ Err (file_fault NotANetworkFile 1)
  pub only_a_mark : meaning (68 ∷ 90 ∷ 78 ∷ 0 ∷ []) ≡ Err (file_fault NotANetworkFile 4)
  -- no node and no pipe; another version; 129 nodes and 513 pipes; 513 pipes
  pub no_nodes : meaning (marked 1 0 (0 ∷ 0 ∷ [])) ≡ Ok empty
  pub newer : meaning (marked 2 129 (0 ∷ 0 ∷ [])) ≡ Err (file_fault UnknownVersion 3)
  pub too_many : meaning (marked 1 129 (2 ∷ 1 ∷ [])) ≡ Err (file_fault TooManyNodesOrPipes 5)
  pub too_many_pipes : meaning (marked 1 128 (2 ∷ 1 ∷ [])) ≡ Err (file_fault TooManyNodesOrPipes 6)
  -- two nodes of weight 1 and 0; one node, and a pipe from it to itself at cost 0; two nodes and a pipe at cost 40001
  pub light : meaning (marked 1 2 (0 ∷ 0 ∷ 0 ∷ 1 ∷ 0 ∷ 0 ∷ [])) ≡ Err (file_fault WeightOutOfRange 10)
  pub loop : meaning (marked 1 1 (0 ∷ 1 ∷ 0 ∷ 1 ∷ 0 ∷ 0 ∷ 0 ∷ 0 ∷ [])) ≡ Err (file_fault BadNodeOrPipe 10)
  pub dear : meaning (marked 1 2 (0 ∷ 1 ∷ 0 ∷ 1 ∷ 0 ∷ 1 ∷ 0 ∷ 1 ∷ 156 ∷ 65 ∷ [])) ≡ Err (file_fault CostOutOfRange 12)
