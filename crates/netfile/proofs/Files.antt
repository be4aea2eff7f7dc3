-- The file of a network: its length, and that it is what the writes leave.
-- Assumes nothing.
use Rattle.std.proofs.Common.{◌≡◌, ℕ, ◌+◌, ◌*◌, ◌<◌, ◌≤◌, List, ◌++◌, length, get_or, drop, None, sym, refl, ap, ◌∙◌, arith, length-append}
use Rattle.std.proofs.lemmas.List.{drop_at, get_or_default}
use Rattle.std.specs.List.{flat_map}
use Rattle.network.proofs.Accepting.{pipe_faultless, weight_faultless}
use Rattle.network.specs.declared.pipe.Pipe.{Pipe}
use Rattle.network.specs.Edits.{pipe_fault, weight_fault}
use Rattle.network.specs.Limits.{WithinLimits, max_nodes, no_pipe}
use Rattle.network.specs.Net.{Net, count}
use Rattle.netfile.specs.Answers.{over, overwritten}
use Rattle.netfile.specs.Format.{file_of, file_size, header, header_size, node_record, node_size, pipe_from, pipe_record, pipe_size, pipes_place, weight_from}
use Rattle.netfile.specs.Records.{node_laws, pipe_laws}
use Rattle.netfile.proofs.Pasting.{length_joined, overwritten_more}

module _ (net : Net) where
  length_nodes : length (flat_map node_record net.weights) ≡ node_size * count net
  length_nodes = length_joined node_size weight_from node_record node_laws net.weights

  length_pipes : length (flat_map pipe_record net.pipes) ≡ pipe_size * length net.pipes
  length_pipes = length_joined pipe_size pipe_from pipe_record pipe_laws net.pipes

  pub length_of_file : length (file_of net) ≡ file_size (count net) (length net.pipes)
  unfolding file_of
  length_of_file =
      let e = length-append (flat_map node_record net.weights) (flat_map pipe_record net.pipes) in
      omega (arith, e, length_nodes, length_pipes)

  split : file_of net ≡ (header (count net) (length net.pipes) ++ flat_map node_record net.weights) ++ flat_map pipe_record net.pipes
  unfolding file_of
  split = refl

  -- how long the leading bytes and the nodes' records are together, and what comes behind them
  length_front : length (header (count net) (length net.pipes) ++ flat_map node_record net.weights) ≡ pipes_place (count net)
  length_front = length-append (header (count net) (length net.pipes)) (flat_map node_record net.weights) ∙ ap (λ k. header_size + k) length_nodes

  pub behind_nodes : drop (pipes_place (count net)) (file_of net) ≡ flat_map pipe_record net.pipes
  behind_nodes =
      ap (drop (pipes_place (count net))) split
      ∙ drop_at (header (count net) (length net.pipes) ++ flat_map node_record net.weights) (flat_map pipe_record net.pipes) (pipes_place (count net)) length_front

  -- the leading bytes, the nodes and the pipes, written one after the other
  pub file_pasted : (out : List ℕ) →
      overwritten (overwritten (overwritten out 0 (header (count net) (length net.pipes))) header_size (flat_map node_record net.weights)) (pipes_place (count net)) (flat_map pipe_record net.pipes)
      ≡ over (file_of net) out
  file_pasted out =
      let h = header (count net) (length net.pipes) in
      let ns = flat_map node_record net.weights in
      let ps = flat_map pipe_record net.pipes in
      let n : pipes_place (count net) ≡ 0 + length (h ++ ns) = omega (arith, length_front) in
      let size : 0 + length (file_of net) ≡ length (file_of net) = omega arith in
      ap (λ d. overwritten d (pipes_place (count net)) ps) (overwritten_more out 0 h ns (omega arith))
      ∙ (ap (λ k. overwritten (overwritten out 0 (h ++ ns)) k ps) n
      ∙ (overwritten_more out 0 (h ++ ns) ps (omega arith)
      ∙ (ap (overwritten out 0) (sym split) ∙ ap (λ j. file_of net ++ drop j out) size)))

  -- no weight and no pipe of a network within the limits has a fault, also among as many nodes as there may be
  pub weights_fit : (v d : ℕ) → WithinLimits net → v < count net → weight_fault (get_or net.weights v d) ≡ None
  weights_fit v d h l = rw (get_or_default net.weights v d 0 l) (weight_faultless _ (h.2 v l))

  pub pipes_fit : (k : ℕ) (d : Pipe ℕ) → WithinLimits net → k < length net.pipes → pipe_fault max_nodes (get_or net.pipes k d) ≡ None
  pipes_fit k d h l =
      let f = h.3 k l in
      rw (get_or_default net.pipes k d no_pipe l) (pipe_faultless max_nodes _ (omega (arith, f.0, h.0), omega (arith, f.1, h.0), f.2, f.3, f.4))
