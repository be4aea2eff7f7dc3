-- A network made of records that have no fault.
-- Assumes nothing.
use Rattle.std.proofs.Common.{◌≡◌, ℕ, ◌+◌, ◌≤◌, List, [], ◌∷◌, ◌++◌, map, fold, length, None, sym, ap, ◌∙◌, arith, append_assoc, length-append}
use lib.ListN.{length-map}
use Rattle.std.proofs.lemmas.List.{append-nil}
use Rattle.std.proofs.lemmas.Bool.{lt-leb}
use Rattle.std.specs.List.{AllByRecursion}
use Rattle.network.proofs.Accepting.{both_passed}
use Rattle.network.specs.declared.pipe.Pipe.{Pipe}
use Rattle.network.specs.Edits.{Edit, edited, pipe_fault, weight_fault}
use Rattle.network.specs.Edits.Edit.{add, join}
use Rattle.network.specs.Limits.{max_nodes, max_pipes}
use Rattle.network.specs.Net.{Net, count, empty}
use Rattle.netfile.specs.Answers.{AllAccepted}
use Rattle.netfile.specs.Format.{header_size, net_of, node_size, pipe_from, pipe_size, pipes_place, weight_from}
use Rattle.netfile.specs.Meaning.{records_fault}
use Rattle.netfile.proofs.Faultless.{each_faultless}

-- weights without fault are added to a network that has room for them
weights_accepted : (net : Net) (ws : List ℕ) → count net + length ws ≤ max_nodes → AllByRecursion (λ w. weight_fault w ≡ None) ws → AllAccepted net (map add ws)
weights_accepted net [] room h = tt
weights_accepted net (w ∷ ws) room h = (
  rw (lt-leb max_nodes (count net) (omega arith)) h.0,
  weights_accepted (edited net (add w)) ws (omega (arith, length-append net.weights (w ∷ []))) h.1,
)

pub weights_added : (net : Net) (ws : List ℕ) → fold edited net (map add ws) ≡ net_of (net.weights ++ ws) net.pipes
weights_added net [] = ap (λ xs. net_of xs net.pipes) (sym (append-nil net.weights))
weights_added net (w ∷ ws) = weights_added (edited net (add w)) ws ∙ ap (λ xs. net_of xs net.pipes) (append_assoc net.weights (w ∷ []) ws)

-- and so are pipes
abbrev pub joined : Pipe ℕ → Edit
joined p = join p.first p.second p.cost

pipes_accepted : (net : Net) (ps : List (Pipe ℕ)) → length net.pipes + length ps ≤ max_pipes → AllByRecursion (λ p. pipe_fault (count net) p ≡ None) ps → AllAccepted net (map joined ps)
pipes_accepted net [] room h = tt
pipes_accepted net (p ∷ ps) room h = (
  rw (lt-leb max_pipes (length net.pipes) (omega arith)) h.0,
  pipes_accepted (edited net (joined p)) ps (omega (arith, length-append net.pipes (p ∷ []))) h.1,
)

pub pipes_added : (net : Net) (ps : List (Pipe ℕ)) → fold edited net (map joined ps) ≡ net_of net.weights (net.pipes ++ ps)
pipes_added net [] = ap (λ xs. net_of net.weights xs) (sym (append-nil net.pipes))
pipes_added net (p ∷ ps) = pipes_added (edited net (joined p)) ps ∙ ap (λ xs. net_of net.weights xs) (append_assoc net.pipes (p ∷ []) ps)

-- records without fault, of the nodes and of the pipes, added to a network without any
module _ (nodes pipes : List (List ℕ)) (net : Net) (tested : records_fault nodes pipes ≡ None) where
  pub nodes_accepted : net ≡ empty → length nodes ≤ max_nodes → AllAccepted net (map add (map weight_from nodes))
  nodes_accepted blank few =
      rw blank
      (weights_accepted empty (map weight_from nodes) (omega (arith, length-map nodes weight_from))
      (each_faultless weight_fault node_size weight_from header_size nodes (both_passed _ _ tested).0))

  pub pipes_accepted_behind : net ≡ net_of (map weight_from nodes) [] → length pipes ≤ max_pipes → AllAccepted net (map joined (map pipe_from pipes))
  pipes_accepted_behind with_nodes few =
      let n = length-map nodes weight_from in
      rw with_nodes
      (pipes_accepted (net_of (map weight_from nodes) []) (map pipe_from pipes) (omega (arith, length-map pipes pipe_from))
      (rw n (each_faultless (pipe_fault (length nodes)) pipe_size pipe_from (pipes_place (length nodes)) pipes (both_passed _ _ tested).1)))
