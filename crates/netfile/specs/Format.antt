-- The network file: its parts, and the bytes of a network.
-- A file is a list of bytes. Eight leading bytes come first, then a record for each node, then one for each pipe.
-- Numbers are unsigned; one of 16 bits has its high byte first.
-- Assumes nothing.
use Rattle.std.specs.Prelude.{ℕ, ◌+◌, ◌*◌, ◌/◌, ◌%◌, ◌<◌, List, [], ◌∷◌, ◌++◌, length, codes, slice_index}
use Rattle.std.specs.List.{flat_map, AllByRecursion}
use Rattle.network.specs.declared.pipe.Pipe.{Pipe}
use Rattle.network.specs.Net.{Net, count}

-- each element is a byte
abbrev pub Bytes : List ℕ → Type 0
Bytes bs = AllByRecursion (λ b. b < 256) bs

-- the first three bytes of every file
abbrev pub mark : List ℕ
mark = codes "DZN"

abbrev pub version : ℕ
version = 1

-- where the version and the two counts stand
abbrev pub version_place : ℕ
version_place = 3

abbrev pub node_count_place : ℕ
node_count_place = 5

abbrev pub pipe_count_place : ℕ
pipe_count_place = 6

-- how many bytes come before the records, and how many the record of a node and of a pipe has
abbrev pub header_size : ℕ
header_size = 8

abbrev pub node_size : ℕ
node_size = 2

abbrev pub pipe_size : ℕ
pipe_size = 4

-- where the record of node v begins
abbrev pub node_place : ℕ → ℕ
node_place v = header_size + node_size * v

-- where the pipes' records begin, behind those of n nodes, and where the record of pipe p begins
abbrev pub pipes_place : ℕ → ℕ
pipes_place n = node_place n

abbrev pub pipe_place : ℕ → ℕ → ℕ
pipe_place n p = pipes_place n + pipe_size * p

-- how long a file of n nodes and m pipes is: it ends where one more pipe would begin
abbrev pub file_size : ℕ → ℕ → ℕ
file_size n m = pipe_place n m

-- a 16-bit number by its two bytes, and the bytes by the number
abbrev pub number_of : ℕ → ℕ → ℕ
number_of high low = high * 256 + low

abbrev pub bytes_of : ℕ → List ℕ
bytes_of x = x / 256 ∷ x % 256 ∷ []

-- what the record of a node says, its weight, and the record by the weight
abbrev pub weight_from : List ℕ → ℕ
weight_from bytes = number_of (slice_index bytes 0) (slice_index bytes 1)

abbrev pub node_record : ℕ → List ℕ
node_record w = bytes_of w

-- what the record of a pipe says, its ends and its cost, and the record by the pipe
abbrev pub pipe_from : List ℕ → Pipe ℕ
pipe_from bytes = record {
  first = slice_index bytes 0;
  second = slice_index bytes 1;
  cost = number_of (slice_index bytes 2) (slice_index bytes 3);
}

abbrev pub pipe_record : Pipe ℕ → List ℕ
pipe_record p = p.first ∷ p.second ∷ bytes_of p.cost

-- the network of nodes with these weights and of these pipes
abbrev pub net_of : List ℕ → List (Pipe ℕ) → Net
net_of ws ps = record { weights = ws; pipes = ps }

-- the eight leading bytes of a file of n nodes and m pipes
abbrev pub header : ℕ → ℕ → List ℕ
header n m = mark ++ (bytes_of version ++ (n ∷ bytes_of m))

-- the file of a network
unfoldable pub file_of : Net → List ℕ
file_of net =
    header (count net) (length net.pipes) ++ (flat_map node_record net.weights ++ flat_map pipe_record net.pipes)
