-- The loops that lay the arcs of a flow network.
-- Assumes nothing.
use Rattle.std.proofs.Common.{◌≡◌, ℕ, zero, suc, ◌+◌, ◌*◌, ◌%◌, ◌^◌, ◌<◌, ◌≤◌, Bool, true, false, not, ◌&&◌, List, [], ◌∷◌, ◌++◌, length, get_or, take, sum_by, sum, sym, refl, ap, ◌∙◌, subst, ⊎_elim, add-one, arith, length-append}
use Rattle.std.proofs.lemmas.List.{get_or_append_left, get_or_push, take_all}
use Rattle.std.proofs.lemmas.List.Sums.{sum_by-cons, sum_by_more, sum_by_push}
use Rattle.std.proofs.lemmas.Bool.{cases_eq, cases_lt}
use Rattle.std.proofs.lemmas.Bool.Decides.{nat_tests}
use Rattle.network.specs.Net.{below, exactly_one, when, weight_in as sum_in}
use Rattle.network.specs.declared.pipe.Pipe.{Pipe}
use Rattle.mincut.specs.Flow.{Flow, capacity, total_capacity}
use Rattle.network.specs.Net.{adds, cost_across}
use Rattle.network.specs.Limits.{no_pipe}
use Rattle.mincut.proofs.Checking.{Accepted}
use Rattle.mincut.proofs.Sets.{below_same}
use Rattle.residual.specs.declared.arcs.Arc.{Arc}
use Rattle.residual.specs.declared.laying.Pair.{Pair}
use Rattle.residual.specs.Arcs.{Paired, Table, Vertices, arc_at, leaves, no_arc, residual, reverse, total}
use Rattle.residual.specs.Laid.{Laid, Separates, both_ways, one_way, sink_of, source_of, table_of, vertices, with_pair, with_pairs, with_pipes, with_sinks, with_sources}
use Rattle.residual.proofs.Amounts.{when_none}

-- arcs in pairs between vertices below n
pub record Pairs (arcs : List Arc) (n : ℕ) : Type 0 where
  pub even : length arcs % 2 ≡ 0
  pub paired : (k : ℕ) → k < length arcs → Paired arcs k
  pub from : (k : ℕ) → k < length arcs → (arc_at arcs k).from < n
  pub to : (k : ℕ) → k < length arcs → (arc_at arcs k).to < n

pub pairs_none : (n : ℕ) → Pairs [] n
pairs_none n = record {
  even = refl;
  paired = λ k h. absurd (omega arith);
  from = λ k h. absurd (omega arith);
  to = λ k h. absurd (omega arith);
}

pub table_none : (n : ℕ) → Table [] n
unfolding total
table_none n = record {
  paired = λ k h. absurd (omega arith);
  from = λ k h. absurd (omega arith);
  to = λ k h. absurd (omega arith);
  small = omega arith;
}

-- a table has arcs between vertices below n, and so below any larger number
pub table_wider : (arcs : List Arc) (n m : ℕ) → n ≤ m → Table arcs n → Table arcs m
table_wider arcs n m le t = record {
  paired = t.paired;
  from = λ k lt. omega (arith, t.from k lt);
  to = λ k lt. omega (arith, t.to k lt);
  small = t.small;
}

module _ (arcs : List Arc) (a b c d : ℕ) where
  abbrev forth : Arc
  forth = record { from = a; to = b; remaining = c }

  abbrev back : Arc
  back = record { from = b; to = a; remaining = d }

  abbrev one : List Arc
  one = arcs ++ forth ∷ []

  abbrev two : List Arc
  two = with_pair arcs a b c d

  one_long : length one ≡ length arcs + 1
  one_long = length-append arcs (forth ∷ [])

  pub two_long : length two ≡ length arcs + 2
  two_long = omega (arith, one_long, length-append one (back ∷ []))

  at_old : (k : ℕ) → k < length arcs → arc_at two k ≡ arc_at arcs k
  at_old k h = get_or_append_left one (back ∷ []) no_arc k (omega (arith, one_long)) ∙ get_or_append_left arcs (forth ∷ []) no_arc k h

  at_forth : arc_at two (length arcs) ≡ forth
  at_forth = get_or_append_left one (back ∷ []) no_arc (length arcs) (omega (arith, one_long)) ∙ get_or_push arcs forth no_arc (length arcs) refl

  at_back : arc_at two (length arcs + 1) ≡ back
  at_back = get_or_push one back no_arc (length arcs + 1) one_long

  pub pair_adds : (X : Vertices) → residual X two ≡ residual X arcs + (when (X a && not (X b)) c + when (X b && not (X a)) d)
  unfolding residual
  pair_adds X = omega (arith, sum_by_push (leaves X) arcs forth, sum_by_push (leaves X) one back)

  pub pair_sums : total two ≡ total arcs + (c + d)
  unfolding total
  pair_sums = omega (arith, sum_by_push (λ (x : Arc). x.remaining) arcs forth, sum_by_push (λ (x : Arc). x.remaining) one back)

  -- what holds of the old arcs and of the two new ones holds of all
  each : (P : ℕ → Type 0) → ((k : ℕ) → k < length arcs → P k) → P (length arcs) → P (length arcs + 1) → (k : ℕ) → k < length two → P k
  each P old here next k h =
      ⊎_elim (old k) (λ le. ⊎_elim (λ (e : k ≡ length arcs). subst P (sym e) here) (λ ne. subst P (sym (last ne le)) next) (cases_eq k (length arcs))) (cases_lt k (length arcs))
    where
      last : (k ≡ length arcs → ⊥) → length arcs ≤ k → k ≡ length arcs + 1
      last ne le = omega (arith, two_long)

  module _ (n : ℕ) (p : Pairs arcs n) (ha : a < n) (hb : b < n) where
    even_reverse : reverse (length arcs) ≡ length arcs + 1
    even_reverse = grind (arith, nat_tests, p.even)

    odd_reverse : reverse (length arcs + 1) ≡ length arcs
    odd_reverse = grind (arith, nat_tests, p.even)

    old_paired : (k : ℕ) → k < length arcs → Paired two k
    old_paired k h =
        let q = p.paired k h in
        record {
          there = omega (arith, q.there, two_long);
          from = ap (λ (x : Arc). x.from) (at_old (reverse k) q.there) ∙ q.from ∙ sym (ap (λ (x : Arc). x.to) (at_old k h));
          to = ap (λ (x : Arc). x.to) (at_old (reverse k) q.there) ∙ q.to ∙ sym (ap (λ (x : Arc). x.from) (at_old k h));
        }

    -- arcs k and j, the one forth and the other back, are each other's reverse
    new_paired : (k j : ℕ) (x y : Arc) → reverse k ≡ j → j < length two → arc_at two k ≡ x → arc_at two j ≡ y → y.from ≡ x.to → y.to ≡ x.from → Paired two k
    new_paired k j x y e h at to f t = record {
      there = subst (λ m. m < length two) (sym e) h;
      from = ap (λ m. (arc_at two m).from) e ∙ ap (λ (z : Arc). z.from) to ∙ f ∙ sym (ap (λ (z : Arc). z.to) at);
      to = ap (λ m. (arc_at two m).to) e ∙ ap (λ (z : Arc). z.to) to ∙ t ∙ sym (ap (λ (z : Arc). z.from) at);
    }

    pub pairs_more : Pairs two n
    pairs_more = record {
      even = omega (arith, p.even, two_long);
      paired = each (Paired two) old_paired
          (new_paired (length arcs) (length arcs + 1) forth back even_reverse (omega (arith, two_long)) at_forth at_back refl refl)
          (new_paired (length arcs + 1) (length arcs) back forth odd_reverse (omega (arith, two_long)) at_back at_forth refl refl);
      from = each (λ k. (arc_at two k).from < n)
          (λ k h. omega (arith, p.from k h, ap (λ (x : Arc). x.from) (at_old k h)))
          (omega (arith, ap (λ (x : Arc). x.from) at_forth)) (omega (arith, ap (λ (x : Arc). x.from) at_back));
      to = each (λ k. (arc_at two k).to < n)
          (λ k h. omega (arith, p.to k h, ap (λ (x : Arc). x.to) (at_old k h)))
          (omega (arith, ap (λ (x : Arc). x.to) at_forth)) (omega (arith, ap (λ (x : Arc). x.to) at_back));
    }

-- i pairs more than `old`, which add f X to the residual capacity of X, and t to the sum of all
record Added (old new : List Arc) (n i : ℕ) (f : Vertices → ℕ) (t : ℕ) : Type 0 where
  pairs : Pairs new n
  long : length new ≡ length old + 2 * i
  adds : (X : Vertices) → residual X new ≡ residual X old + f X
  sums : total new ≡ total old + t

-- what a pair adds to the residual capacity of X
abbrev across : Vertices → Pair → ℕ
across X p = when (X p.from && not (X p.to)) p.forth + when (X p.to && not (X p.from)) p.back

-- the pairs that a rule gives for a list
module _ {A : Type 0} (rule : ℕ → A → Pair) (d : A) (xs : List A) where
  abbrev at : ℕ → Pair
  at k = rule k (get_or xs k d)

  added : (n : ℕ) (old : List Arc) → Pairs old n → ((k : ℕ) → k < length xs → ((at k).from < n) × ((at k).to < n)) → (i : ℕ) → i ≤ length xs
      → Added old (with_pairs rule d old xs i) n i (λ X. below i (λ k. across X (at k))) (below i (λ k. (at k).forth + (at k).back))
  unfolding with_pairs below
  added n old pairs ends zero le = record {
    pairs = pairs;
    long = omega arith;
    adds = λ X. omega arith;
    sums = omega arith;
  }
  added n old pairs ends (suc i) le =
      let h = added n old pairs ends i (omega arith) in
      let new : List Arc = with_pairs rule d old xs i in
      let p : Pair = at i in
      let e = ends i (omega arith) in
      record {
        pairs = pairs_more new p.from p.to p.forth p.back n h.pairs e.0 e.1;
        long = omega (arith, h.long, two_long new p.from p.to p.forth p.back);
        adds = λ X. omega (arith, h.adds X, pair_adds new p.from p.to p.forth p.back X);
        sums = omega (arith, h.sums, pair_sums new p.from p.to p.forth p.back);
      }

  -- the tables at the start of the loop and one turn on
  pub pairs_start : (old : List Arc) → old ≡ with_pairs rule d old xs 0
  unfolding with_pairs
  pairs_start old = refl

  pub pairs_next : (old : List Arc) (i : ℕ) → with_pair (with_pairs rule d old xs i) (at i).from (at i).to (at i).forth (at i).back ≡ with_pairs rule d old xs (i + 1)
  unfolding with_pairs
  pairs_next old i = ap (with_pairs rule d old xs) (sym (add-one i))

-- a sum by the places of a list is a sum over it
module _ {A : Type 0} (f : A → ℕ) (d : A) (xs : List A) where
  below_take : (i : ℕ) → i ≤ length xs → below i (λ k. f (get_or xs k d)) ≡ sum_by f (take i xs)
  unfolding below
  below_take zero le = refl
  below_take (suc i) le = omega (arith, below_take i (omega arith), sum_by_more f xs i d (omega arith), ap (λ n. sum_by f (take n xs)) (add-one i))

  below_all : below (length xs) (λ k. f (get_or xs k d)) ≡ sum_by f xs
  below_all = below_take (length xs) (omega arith) ∙ ap (sum_by f) (take_all (length xs) xs (omega arith))

-- a pipe that crosses X adds its capacity one way or the other
crossing : (X : Vertices) (p : Pipe ℕ) → across X (both_ways p) ≡ adds X p
crossing X p = by (X p.first) (X p.second) p.cost
  where
    by : (b c : Bool) (x : ℕ) → when (b && not c) x + when (c && not b) x ≡ when (exactly_one b c) x
    by true true x = omega arith
    by true false x = omega arith
    by false true x = omega arith
    by false false x = omega arith

doubled : (ps : List (Pipe ℕ)) → sum_by (λ p. p.cost + p.cost) ps ≡ sum_by (λ p. p.cost) ps + sum_by (λ p. p.cost) ps
doubled [] = refl
doubled (p ∷ ps) = omega (arith, doubled ps, sum_by-cons (λ (p : Pipe ℕ). p.cost + p.cost) p ps, sum_by-cons (λ (p : Pipe ℕ). p.cost) p ps)

-- the whole kinds of arcs together
module _ (net : Flow) (m : ℕ) (ok : Accepted net m) where
  abbrev sourced : List Arc
  sourced = with_sources [] net.nodes net.sources (length net.sources)

  abbrev sunk : List Arc
  sunk = with_sinks sourced net.nodes net.sinks (length net.sinks)

  abbrev whole : List Arc
  whole = with_pipes sunk net.pipes (length net.pipes)

  from_sources : Added [] sourced (vertices net.nodes) (length net.sources) (λ X. below (length net.sources) (λ k. across X (one_way (source_of net.nodes) k (get_or net.sources k 0))))
      (below (length net.sources) (λ k. get_or net.sources k 0 + 0))
  from_sources =
      added (λ v c. one_way (source_of net.nodes) v c) 0 net.sources (vertices net.nodes) [] (pairs_none (vertices net.nodes))
      (λ k h. (omega arith, omega (arith, ok.sources))) (length net.sources) (omega arith)

  to_sinks : Added sourced sunk (vertices net.nodes) (length net.sinks) (λ X. below (length net.sinks) (λ k. across X (one_way k (sink_of net.nodes) (get_or net.sinks k 0))))
      (below (length net.sinks) (λ k. get_or net.sinks k 0 + 0))
  to_sinks =
      added (λ v c. one_way v (sink_of net.nodes) c) 0 net.sinks (vertices net.nodes) sourced from_sources.pairs
      (λ k h. (omega (arith, ok.sinks), omega arith)) (length net.sinks) (omega arith)

  along_pipes : Added sunk whole (vertices net.nodes) (length net.pipes) (λ X. below (length net.pipes) (λ k. across X (both_ways (get_or net.pipes k no_pipe))))
      (below (length net.pipes) (λ k. (get_or net.pipes k no_pipe).cost + (get_or net.pipes k no_pipe).cost))
  along_pipes =
      added (λ _ p. both_ways p) no_pipe net.pipes (vertices net.nodes) sunk to_sinks.pairs
      (λ k h. (omega (arith, (ok.ends k h).0), omega (arith, (ok.ends k h).1))) (length net.pipes) (omega arith)

  none_left : (X : Vertices) → residual X [] ≡ 0
  unfolding residual
  none_left X = refl

  none_in_all : total [] ≡ 0
  unfolding total
  none_in_all = refl

  -- what the arcs of a list of capacities can take together
  forth_alone : (cs : List ℕ) → below (length cs) (λ k. get_or cs k 0 + 0) ≡ sum cs
  forth_alone cs = below_same (length cs) _ _ (λ k _. omega arith) ∙ below_all (λ x. x) 0 cs

  small : total whole < 2 ^ 64
  unfolding total_capacity
  small =
      omega (
        arith,
        from_sources.sums,
        to_sinks.sums,
        along_pipes.sums,
        none_in_all,
        doubled net.pipes,
        ok.small,
        forth_alone net.sources,
        forth_alone net.sinks,
        below_all (λ (p : Pipe ℕ). p.cost + p.cost) no_pipe net.pipes,
      )

  capacities : (X : Vertices) → Separates net.nodes X → residual X whole ≡ capacity net X
  unfolding capacity cost_across sum_in
  capacities X h =
      let a = below_same (length net.sources) (λ k. across X (one_way (source_of net.nodes) k (get_or net.sources k 0))) (λ v. when (not (X v)) (get_or net.sources v 0))
      (λ v _. omega (arith, ap (λ (b : Bool). when (b && not (X v)) (get_or net.sources v 0)) h.source, when_none (X v && not (X (source_of net.nodes))))) in
      let b = below_same (length net.sinks) (λ k. across X (one_way k (sink_of net.nodes) (get_or net.sinks k 0))) (λ v. when (X v) (get_or net.sinks v 0))
      (λ v _.
      omega (arith, ap (λ (b : Bool). when (X v && not b) (get_or net.sinks v 0)) h.sink, always (X v) (get_or net.sinks v 0), when_none (X (sink_of net.nodes) && not (X v)))) in
      let c = below_same (length net.pipes) (λ k. across X (both_ways (get_or net.pipes k no_pipe))) (λ k. adds X (get_or net.pipes k no_pipe))
      (λ k _. crossing X (get_or net.pipes k no_pipe)) ∙ below_all (adds X) no_pipe net.pipes in
      omega (arith, from_sources.adds X, to_sinks.adds X, along_pipes.adds X, none_left X)
    where
      always : (b : Bool) (x : ℕ) → when (b && true) x ≡ when b x
      always true x = refl
      always false x = refl

  pub laid : Laid net (table_of net)
  unfolding table_of
  laid = record {
    few = omega (arith, from_sources.long, to_sinks.long, along_pipes.long, ok.few, ok.few_pipes, ok.sources, ok.sinks);
    table = record { paired = along_pipes.pairs.paired; from = along_pipes.pairs.from; to = along_pipes.pairs.to; small = small };
    capacities = capacities;
  }
