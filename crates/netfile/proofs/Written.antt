-- That a network written to a file loads as itself.
-- Assumes nothing.
use Rattle.std.proofs.Common.{◌≡◌, ℕ, ◌<◌, List, [], ◌∷◌, map, length, get_or, take, drop, None, Ok, refl, ap, ◌∙◌, arith}
use Rattle.std.proofs.lemmas.Nat.{div-add-mod', div_below, mod_below}
use Rattle.std.proofs.ByRecursion.{All-append, All-from_get_or}
use Rattle.std.proofs.lemmas.List.{append-nil, take_at}
use Rattle.std.specs.List.{flat_map, AllByRecursion}
use Rattle.network.proofs.Accepting.{pipe_faultless, weight_faultless}
use Rattle.network.specs.Edits.{pipe_fault, weight_fault}
use Rattle.network.specs.Limits.{WithinLimits, no_pipe}
use Rattle.network.specs.Net.{Net, count}
use Rattle.netfile.specs.Answers.{over}
use Rattle.netfile.specs.Format.{Bytes, bytes_of, file_of, header_size, node_record, node_size, pipe_from, pipe_record, pipe_size, pipes_place, weight_from}
use Rattle.netfile.specs.Laws.{WrittenInBytes, WrittenLoadsAsItself}
use Rattle.netfile.specs.Meaning.{header_fault, meaning, node_count, node_records, nodes_fault, pipe_count, pipe_records, pipes_fault}
use Rattle.netfile.specs.Records.{node_laws, pipe_laws}
use Rattle.netfile.proofs.Cutting.{chunked_joined, read_joined}
use Rattle.netfile.proofs.Faultless.{written_faultless}
use Rattle.netfile.proofs.Files.{behind_nodes, length_of_file}
use Rattle.netfile.proofs.Leading.{faultless}

module _ (net : Net) (h : WithinLimits net) where
  pipe_count_is : pipe_count (file_of net) ≡ length net.pipes
  unfolding file_of
  pipe_count_is = div-add-mod' (length net.pipes) 256

  no_header_fault : header_fault (file_of net) ≡ None
  unfolding file_of
  no_header_fault =
      let size = length_of_file net in
      let m = pipe_count_is in
      faultless (file_of net) (record {
        long = omega arith;
        first = refl;
        second = refl;
        third = refl;
        known = refl;
        nodes = h.0;
        pipes = omega (arith, h.1);
        whole = omega arith;
      })

  nodes_are : node_records (file_of net) ≡ map node_record net.weights
  unfolding file_of
  nodes_are = chunked_joined node_size weight_from node_record node_laws net.weights (flat_map pipe_record net.pipes)

  behind : drop (pipes_place (node_count (file_of net))) (file_of net) ≡ flat_map pipe_record net.pipes
  unfolding file_of
  behind = behind_nodes net

  pipes_are : pipe_records (file_of net) ≡ map pipe_record net.pipes
  pipes_are =
      let again = chunked_joined pipe_size pipe_from pipe_record pipe_laws net.pipes [] in
      rw (pipe_count_is, behind) (rw (append-nil (flat_map pipe_record net.pipes)) at again)

  no_node_fault : nodes_fault (node_records (file_of net)) ≡ None
  no_node_fault =
      let each = All-from_get_or (λ w. weight_fault w ≡ None) net.weights 0 (λ v l. weight_faultless (get_or net.weights v 0) (h.2 v l)) in
      rw nodes_are (written_faultless weight_fault node_size weight_from node_record node_laws header_size net.weights each)

  no_pipe_fault : pipes_fault (count net) (pipe_records (file_of net)) ≡ None
  no_pipe_fault =
      let each = All-from_get_or (λ p. pipe_fault (count net) p ≡ None) net.pipes no_pipe (λ k l. pipe_faultless (count net) (get_or net.pipes k no_pipe) (h.3 k l)) in
      rw pipes_are (written_faultless (pipe_fault (count net)) pipe_size pipe_from pipe_record pipe_laws (pipes_place (count net)) net.pipes each)

  node_count_is : node_count (file_of net) ≡ count net
  unfolding file_of
  node_count_is = refl

  loads : meaning (file_of net) ≡ Ok net
  loads =
      let no_pipe_fault' = ap (λ k. pipes_fault k (pipe_records (file_of net))) node_count_is ∙ no_pipe_fault in
      rw (no_header_fault, no_node_fault, no_pipe_fault', nodes_are, pipes_are, read_joined node_size weight_from node_record node_laws net.weights, read_joined pipe_size pipe_from pipe_record pipe_laws net.pipes) refl

pub written_loads_as_itself : WrittenLoadsAsItself
written_loads_as_itself net h = loads net h

-- a buffer with the file at its front loads as the network
pub front_loads : (net : Net) (out : List ℕ) → WithinLimits net → meaning (take (length (file_of net)) (over (file_of net) out)) ≡ Ok net
front_loads net out h = ap meaning (take_at (file_of net) (drop (length (file_of net)) out) (length (file_of net)) refl) ∙ loads net h

-- the file is a list of bytes
bytes_are : (x : ℕ) → x < 65536 → Bytes (bytes_of x)
bytes_are x l = (div_below x 256 256 (omega arith) (omega arith), (mod_below x 256 (omega arith), tt))

joined_bytes : {X : Type 0} (f : X → List ℕ) (xs : List X) → AllByRecursion (λ x. Bytes (f x)) xs → Bytes (flat_map f xs)
joined_bytes f [] h = tt
joined_bytes f (x ∷ xs) h = All-append _ (f x) (flat_map f xs) h.0 (joined_bytes f xs h.1)

pub written_in_bytes : WrittenInBytes
unfolding file_of
written_in_bytes net h =
    let nodes = All-from_get_or (λ w. Bytes (node_record w)) net.weights 0 (λ v l. bytes_are _ (omega (arith, (h.2 v l).1))) in
    let pipes = All-from_get_or (λ p. Bytes (pipe_record p)) net.pipes no_pipe
    (λ k l. let f = h.3 k l in (omega (arith, f.0, h.0), (omega (arith, f.1, h.0), bytes_are _ (omega (arith, f.4))))) in
    let records = All-append _ (flat_map node_record net.weights) (flat_map pipe_record net.pipes) (joined_bytes node_record _ nodes) (joined_bytes pipe_record _ pipes) in
    let m = bytes_are (length net.pipes) (omega (arith, h.1)) in
    (omega arith, (omega arith, (omega arith, (omega arith, (omega arith, (omega (arith, h.0), (m.0, (m.1.0, records))))))))
