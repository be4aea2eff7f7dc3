-- That an accepted file is written back byte by byte, and that its network is within the limits.
-- Assumes nothing.
use Rattle.std.proofs.Common.{◌≡◌, ℕ, ◌+◌, ◌*◌, ◌/◌, ◌%◌, ◌<◌, List, ◌∷◌, ◌++◌, length, get_or, take, drop, None, Ok, sym, ap, ◌∙◌, subst, arith, length-drop}
use lib.ListN.{length-map}
use Rattle.std.proofs.lemmas.Nat.{div-mul-add, mod-mul-add}
use Rattle.std.proofs.ByRecursion.{All-drop, All-get_or, All-weaker}
use Rattle.std.proofs.lemmas.List.{drop-drop, drop_more, take_all, take-append-drop}
use Rattle.std.specs.List.{flat_map}
use Rattle.network.proofs.Accepting.{both_passed, pipe_fits, weight_fits}
use Rattle.network.specs.Edits.{pipe_fault, weight_fault}
use Rattle.network.specs.Limits.{PipeFits, WeightFits, WithinLimits, no_pipe}
use Rattle.network.specs.Net.{count}
use Rattle.netfile.specs.Format.{Bytes, file_of, header, header_size, node_record, node_size, pipe_from, pipe_record, pipe_size, pipes_place, weight_from}
use Rattle.netfile.specs.Laws.{AcceptedExactly, AcceptedIsWrittenBack}
use Rattle.netfile.specs.Meaning.{first_file_fault, meaning, network_in, node_count, node_records, nodes_fault, pipe_count, pipe_records, pipes_fault}
use Rattle.netfile.specs.Records.{node_laws, pipe_laws}
use Rattle.netfile.proofs.Cutting.{joined_chunked, length_chunked}
use Rattle.netfile.proofs.Faultless.{each_faultless}
use Rattle.netfile.proofs.Leading.{Good, good}
use Rattle.netfile.proofs.Scanning.{answered_ok}
use Rattle.netfile.proofs.Written.{written_loads_as_itself}

module _ (file : List ℕ) where
  -- what an accepted file shows: no fault of any part
  pub record Faultless : Type 0 where
    pub leading : Good file
    pub nodes : nodes_fault (node_records file) ≡ None
    pub pipes : pipes_fault (node_count file) (pipe_records file) ≡ None

  parts : first_file_fault file ≡ None → Faultless
  parts e =
      let (f, g) = both_passed _ _ e in
      let (h, i) = both_passed _ _ g in
      record { leading = good file f; nodes = h; pipes = i }

  count_is : count (network_in file) ≡ node_count file
  count_is = length-map (node_records file) weight_from ∙ length_chunked node_size (node_count file) (drop header_size file)

  pipes_are : length (network_in file).pipes ≡ pipe_count file
  pipes_are = length-map (pipe_records file) pipe_from ∙ length_chunked pipe_size (pipe_count file) (drop (pipes_place (node_count file)) file)

  -- within the limits
  limits : Faultless → WithinLimits (network_in file)
  limits f =
      let n = count_is in
      let m = pipes_are in
      let ws = All-weaker _ WeightFits weight_fits (network_in file).weights (each_faultless weight_fault node_size weight_from header_size (node_records file) f.nodes) in
      let ps =
      All-weaker _ (PipeFits (node_count file)) (pipe_fits (node_count file)) (network_in file).pipes
      (each_faultless (pipe_fault (node_count file)) pipe_size pipe_from (pipes_place (node_count file)) (pipe_records file) f.pipes) in (
        omega (arith, f.leading.nodes),
        omega (arith, f.leading.pipes),
        (λ v l. All-get_or WeightFits (network_in file).weights v 0 l ws),
        (λ k l. subst (λ c. PipeFits c (get_or (network_in file).pipes k no_pipe)) (sym n) (All-get_or (PipeFits (node_count file)) (network_in file).pipes k no_pipe l ps)),
      )

  module _ (bytes : Bytes file) (g : Good file) where
    byte : (k : ℕ) → k < header_size → get_or file k 0 < 256
    byte k l = All-get_or (λ b. b < 256) file k 0 (omega (arith, g.long)) bytes

    -- the leading bytes
    next : (k : ℕ) → k < header_size → drop k file ≡ get_or file k 0 ∷ drop (k + 1) file
    next k l = drop_more file k 0 (omega (arith, g.long))

    eight : file ≡ header (node_count file) (pipe_count file) ++ drop header_size file
    eight =
        let e0 : file ≡ get_or file 0 0 ∷ drop 1 file = next 0 (omega arith) in
        let e1 : drop 1 file ≡ get_or file 1 0 ∷ drop 2 file = next 1 (omega arith) in
        let e2 : drop 2 file ≡ get_or file 2 0 ∷ drop 3 file = next 2 (omega arith) in
        let e3 : drop 3 file ≡ get_or file 3 0 ∷ drop 4 file = next 3 (omega arith) in
        let e4 : drop 4 file ≡ get_or file 4 0 ∷ drop 5 file = next 4 (omega arith) in
        let e5 : drop 5 file ≡ get_or file 5 0 ∷ drop 6 file = next 5 (omega arith) in
        let e6 : drop 6 file ≡ get_or file 6 0 ∷ drop 7 file = next 6 (omega arith) in
        let e7 : drop 7 file ≡ get_or file 7 0 ∷ drop 8 file = next 7 (omega arith) in
        let low = byte 4 (omega arith) in
        let v1 : get_or file 3 0 ≡ 0 = omega (arith, g.known) in
        let v0 : get_or file 4 0 ≡ 1 = omega (arith, g.known) in
        let p1 : pipe_count file / 256 ≡ get_or file 6 0 = div-mul-add (get_or file 6 0) 256 (get_or file 7 0) (byte 7 (omega arith)) in
        let p0 : pipe_count file % 256 ≡ get_or file 7 0 = mod-mul-add (get_or file 6 0) 256 (get_or file 7 0) (byte 7 (omega arith)) in
        let first = g.first in
        let second = g.second in
        let third = g.third in
        cc

    -- the records
    written_nodes : flat_map node_record (network_in file).weights ≡ take (node_size * node_count file) (drop header_size file)
    written_nodes =
        joined_chunked node_size weight_from node_record node_laws (node_count file) (drop header_size file) (All-drop _ header_size file bytes)
        (omega (arith, g.whole, length-drop header_size file))

    written_pipes : flat_map pipe_record (network_in file).pipes ≡ drop (node_size * node_count file) (drop header_size file)
    written_pipes =
        let rest = drop (pipes_place (node_count file)) file in
        let n : length rest ≡ pipe_size * pipe_count file = omega (arith, g.whole, length-drop (pipes_place (node_count file)) file) in
        joined_chunked pipe_size pipe_from pipe_record pipe_laws (pipe_count file) rest (All-drop _ (pipes_place (node_count file)) file bytes) (omega (arith, n))
        ∙ (take_all (pipe_size * pipe_count file) rest (omega (arith, n)) ∙ sym (drop-drop (node_size * node_count file) header_size file))

    records : flat_map node_record (network_in file).weights ++ flat_map pipe_record (network_in file).pipes ≡ drop header_size file
    records = rw (written_nodes, written_pipes) (take-append-drop (node_size * node_count file) (drop header_size file))

    pub back : file_of (network_in file) ≡ file
    unfolding file_of
    back =
        ap (λ n. header n (length (network_in file).pipes) ++ (flat_map node_record (network_in file).weights ++ flat_map pipe_record (network_in file).pipes)) count_is
        ∙ (ap (λ m. header (node_count file) m ++ (flat_map node_record (network_in file).weights ++ flat_map pipe_record (network_in file).pipes)) pipes_are
        ∙ (ap (λ rest. header (node_count file) (pipe_count file) ++ rest) records ∙ sym eight))

pub accepted_is_written_back : AcceptedIsWrittenBack
accepted_is_written_back file net bytes e =
    let (o, same) = answered_ok _ _ net e in
    subst (λ n. file_of n ≡ file) same (back file bytes (parts file o).leading)

pub accepted_exactly : AcceptedExactly
accepted_exactly file net bytes = (
  (λ e. let (o, same) = answered_ok _ _ net e in (subst WithinLimits same (limits file (parts file o)), accepted_is_written_back file net bytes e)),
  (λ k. let (h, same) = k in subst (λ f. meaning f ≡ Ok net) same (written_loads_as_itself net h)),
)
