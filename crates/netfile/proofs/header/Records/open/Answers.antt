use Rattle.std.proofs.Common.{◌≡◌, ◌*◌, ◌<◌, take, drop, None, sym, ◌∙◌, arith, rules}
use Rattle.std.proofs.ByRecursion.{All-from_get_or}
use Rattle.std.proofs.lemmas.List.{drop-drop, take_rest}
use Rattle.netfile.specs.Format.{header_size, node_size, pipe_size, pipes_place}
use Rattle.netfile.specs.Meaning.{header_fault, node_count, pipe_count}
use Rattle.netfile.proofs.Accepted.{back}
use Rattle.netfile.proofs.Cutting.{cut_front, cut_from}
use Rattle.netfile.proofs.Leading.{good}
use Rattle.netfile.proofs.header.Records.open.Goals as goal

pub returns : goal.returns
returns c =
    let file = c.args.file.now in
    let n = node_count file in
    let rest = take_rest file header_size in
    let nodes : c.split_at.result.0.now ≡ take (node_size * n) (drop header_size file) = search (rules, rest) in
    let pipes : c.split_at.result.1.now ≡ drop (pipes_place n) file = search (rules, rest, drop-drop (node_size * n) header_size file) in
    let fault : None ≡ header_fault file = search rules in
    let nodes_are = c.as_chunks.ensures.front ∙ cut_front node_size (drop header_size file) _ n _ nodes (search rules) in
    let pipes_are = c.as_chunks-2.ensures.front ∙ cut_from pipe_size file _ (pipes_place n) (pipe_count file) _ pipes (search rules) in
    let bytes = All-from_get_or (λ b. b < 256) file 0 (λ i l. let f = c.type_inv.file i in omega arith) in
    record {
      fault = fault;
      nodes = nodes_are;
      pipes = pipes_are;
      written = rw (nodes_are, pipes_are) (back file bytes (good file (sym fault)));
    }
