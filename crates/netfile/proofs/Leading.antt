-- The leading bytes and the length of a file that have no fault.
-- Assumes nothing.
use Rattle.std.proofs.Common.{◌≡◌, ℕ, ◌<◌, ◌≤◌, false, List, length, get_or, None, refl, arith}
use Rattle.std.proofs.lemmas.Bool.{and_right, eq-eqb, eqb-true, le-ltb, lt-ltb, ltb-false, not-false, not_from_true, or_from, or_parts}
use Rattle.network.proofs.Accepting.{passed, passes}
use Rattle.network.specs.Limits.{max_nodes, max_pipes}
use Rattle.netfile.specs.Format.{header_size, mark, version, version_place}
use Rattle.netfile.specs.Meaning.{differs, header_fault, node_count, number_at, pipe_count, size_due}

module _ (file : List ℕ) where
  pub record Good : Type 0 where
    pub long : header_size ≤ length file
    pub first : get_or file 0 0 ≡ get_or mark 0 0
    pub second : get_or file 1 0 ≡ get_or mark 1 0
    pub third : get_or file 2 0 ≡ get_or mark 2 0
    pub known : number_at file version_place ≡ version
    pub nodes : node_count file ≤ max_nodes
    pub pipes : pipe_count file ≤ max_pipes
    pub whole : length file ≡ size_due file

  same : (k : ℕ) → k < length file → differs file k ≡ false → get_or file k 0 ≡ get_or mark k 0
  same k l e = eqb-true _ _ (not-false _ (rw (lt-ltb k (length file) l) at e))

  not_differs : (k : ℕ) → get_or file k 0 ≡ get_or mark k 0 → differs file k ≡ false
  not_differs k e = and_right _ _ (not_from_true _ (eq-eqb _ _ e))

  pub good : header_fault file ≡ None → Good
  good e =
      let (marks, f) = passed _ _ _ e in
      let (known, g) = passed _ _ _ f in
      let (nodes, h) = passed _ _ _ g in
      let (pipes, i) = passed _ _ _ h in
      let (whole, _) = passed _ _ _ i in
      let (short, differ) = or_parts _ _ marks in
      let (d, differ') = or_parts _ _ differ in
      let (z, n) = or_parts _ _ differ' in
      let long : header_size ≤ length file = ltb-false _ _ short in
      record {
        long = long;
        first = same 0 (omega arith) d;
        second = same 1 (omega arith) z;
        third = same 2 (omega arith) n;
        known = eqb-true _ _ (not-false _ known);
        nodes = ltb-false _ _ nodes;
        pipes = ltb-false _ _ pipes;
        whole = eqb-true _ _ (not-false _ whole);
      }

  pub faultless : Good → header_fault file ≡ None
  faultless g =
      passes _ _ _ (or_from _ _ (le-ltb _ _ g.long) (or_from _ _ (not_differs 0 g.first) (or_from _ _ (not_differs 1 g.second) (not_differs 2 g.third))))
      (passes _ _ _ (not_from_true _ (eq-eqb _ _ g.known))
      (passes _ _ _ (le-ltb _ _ g.nodes)
      (passes _ _ _ (le-ltb _ _ g.pipes)
      (passes _ _ _ (not_from_true _ (eq-eqb _ _ g.whole)) refl))))
