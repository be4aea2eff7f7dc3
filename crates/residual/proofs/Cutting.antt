-- What the source reaches once no more can be sent is the smallest minimum cut.
-- Assumes nothing.
use Rattle.std.proofs.Common.{◌≡◌, ℕ, suc, ◌+◌, ◌<◌, ◌≤◌, Bool, true, false, cond, not, ◌&&◌, eqb, ◌≢◌, List, [], ◌∷◌, length, get_or, sym, refl, ap, ◌∙◌, ⊎_elim, arith}
use Rattle.std.proofs.lemmas.List.Sums.{get_or-le-sum_by, sum_by-cons}
use Rattle.std.proofs.lemmas.Bool.{cases_Bool, cases_lt, cond-false, cond-true, eq-eqb, ne_eqb, true≢false}
use Rattle.network.specs.Net.{Nodes, set_of, when}
use Rattle.mincut.specs.Flow.{Flow, SmallestCut, capacity}
use Rattle.mincut.specs.Solver.{Solved}
use Rattle.mincut.proofs.Checking.{Accepted, accepted}
use Rattle.mincut.proofs.Sets.{capacity_same}
use Rattle.residual.specs.declared.arcs.Arc.{Arc}
use Rattle.residual.specs.Arcs.{Vertices, arc_at, leaves, no_arc, residual}
use Rattle.residual.specs.Finished.{Finished}
use Rattle.residual.specs.Laid.{Separates, sink_of, source_of}
use Rattle.residual.specs.Laws.{ReachedIsSmallest}
use Rattle.residual.specs.Reach.{Closed, Reached}

-- a closed set has no residual capacity, and a set without residual capacity is closed
pub closed_none : (X : Vertices) (arcs : List Arc) → Closed arcs X → residual X arcs ≡ 0
unfolding residual
closed_none X [] h = refl
closed_none X (a ∷ arcs) h =
    omega (arith, sum_by-cons (leaves X) a arcs, closed_none X arcs (λ k lt. h (suc k) (omega arith)), one (X a.from) (X a.to) a.remaining (h 0 (omega arith)))
  where
    one : (b c : Bool) (r : ℕ) → (b ≡ true → 0 < r → c ≡ true) → when (b && not c) r ≡ 0
    one true true r f = refl
    one true false r f = ⊎_elim (λ (z : 0 < r). absurd (true≢false (sym (f refl z)))) (λ le. omega arith) (cases_lt 0 r)
    one false c r f = refl

pub none_closed : (X : Vertices) (arcs : List Arc) → residual X arcs ≡ 0 → Closed arcs X
unfolding residual
none_closed X arcs e k lt h pos =
    ⊎_elim (λ t. t)
    (λ (f : X (arc_at arcs k).to ≡ false).
    absurd (omega (arith, get_or-le-sum_by (leaves X) arcs k no_arc lt, ap (λ (b : Bool). when (b && not (X (arc_at arcs k).to)) (arc_at arcs k).remaining) h, ap (λ (b : Bool). when (true && not b) (arc_at arcs k).remaining) f)))
    (cases_Bool (X (arc_at arcs k).to))

-- a set of nodes with the source and without the sink
side : ℕ → Nodes → Vertices
side n Y v = cond (eqb v (source_of n)) true (cond (eqb v (sink_of n)) false (Y v))

side_separates : (n : ℕ) (Y : Nodes) → Separates n (side n Y)
unfolding side
side_separates n Y = record {
  source = cond-true _ _ _ (eq-eqb n n refl);
  sink = let ne : n + 1 ≢ n = omega arith in cond-false _ _ _ (ne_eqb (n + 1) n ne) ∙ cond-true _ _ _ (eq-eqb (n + 1) (n + 1) refl);
}

side_nodes : (n : ℕ) (Y : Nodes) (v : ℕ) → v < n → side n Y v ≡ Y v
unfolding side
side_nodes n Y v lt =
    let ns : v ≢ n = omega arith in
    let nt : v ≢ n + 1 = omega arith in
    cond-false _ _ _ (ne_eqb v n ns) ∙ cond-false _ _ _ (ne_eqb v (n + 1) nt)

module _ {net : Flow} {m : ℕ} (ok : Accepted net m) {arcs : List Arc} {sent : ℕ} (done : Finished net arcs sent) {R : Vertices} (reached : Reached arcs (source_of net.nodes) R) where
  separates : Separates net.nodes R
  separates = record {
    source = reached.start;
    sink = ⊎_elim
        (λ (t : R (sink_of net.nodes) ≡ true).
        let z = done.blocked in
        absurd (true≢false (sym (reached.least z.0 z.1.0 z.1.2 (sink_of net.nodes) t) ∙ z.1.1)))
        (λ f. f) (cases_Bool (R (sink_of net.nodes)));
  }

  value : sent ≡ capacity net R
  value = omega (arith, done.kept R separates, closed_none R arcs reached.closed)

  -- the capacity of a set is what was sent and what is left
  left : (Y : Nodes) → residual (side net.nodes Y) arcs + sent ≡ capacity net Y
  left Y = done.kept (side net.nodes Y) (side_separates net.nodes Y) ∙ capacity_same net m ok (side net.nodes Y) Y (side_nodes net.nodes Y)

  module _ (M : Nodes) (same : (v : ℕ) → v < net.nodes → M v ≡ R v) where
    same_value : sent ≡ capacity net M
    same_value = value ∙ sym (capacity_same net m ok M R same)

    smallest_cut : SmallestCut net M
    smallest_cut = record {
      least = λ Y. omega (arith, same_value, left Y);
      smallest = λ Y h v lt t.
          let none : residual (side net.nodes Y) arcs ≡ 0 = omega (arith, same_value, left Y, h M) in
          sym (side_nodes net.nodes Y v lt)
          ∙ reached.least (side net.nodes Y) (side_separates net.nodes Y).source (none_closed (side net.nodes Y) arcs none) v (sym (same v lt) ∙ t);
    }

  bit_at : (b : Bool) → eqb (cond b 1 0) 1 ≡ b
  bit_at true = refl
  bit_at false = refl

  bit_small : (b : Bool) → cond b 1 0 ≤ 1
  bit_small true = omega arith
  bit_small false = omega arith

  solved : (marks : List ℕ) → length marks ≡ net.nodes → ((v : ℕ) → v < length marks → get_or marks v 0 ≡ cond (R v) 1 0) → Solved net marks sent
  solved marks long each =
      let at : (v : ℕ) → v < net.nodes → get_or marks v 0 ≡ cond (R v) 1 0 = λ v lt. each v (omega arith) in
      let same : (v : ℕ) → v < net.nodes → set_of marks v ≡ R v = λ v lt. ap (λ (x : ℕ). eqb x 1) (at v lt) ∙ bit_at (R v) in
      record {
        long = long;
        bits = λ v lt. omega (arith, at v lt, bit_small (R v));
        cut = smallest_cut (set_of marks) same;
        value = same_value (set_of marks) same;
      }

pub reached_is_smallest : ReachedIsSmallest
reached_is_smallest net arcs sent R before marks e long done reached each =
    let ok = accepted net (length before) e in
    solved ok done reached marks (long ∙ ok.marks) each
