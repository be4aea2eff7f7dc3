-- Sending along the path that was found, from its last arc back to the source.
-- Assumes nothing.
use Rattle.std.proofs.Common.{◌≡◌, ℕ, ◌<◌, ◌≤◌, ◌≢◌, List, length, Some, sym, ap, ◌∙◌, subst, arith}
use Rattle.network.specs.Net.{when}
use Rattle.residual.specs.declared.arcs.Arc.{Arc}
use Rattle.residual.specs.Arcs.{Alike, Moved, Table, arc_at, pushed}
use Rattle.residual.proofs.Pushing.{alike_more, push_moves, pushed_alike, pushed_others}
use Rattle.pathsolver.specs.declared.step.Step.{Step}
use Rattle.pathsolver.specs.Steps.{Follows, Reached, Trail, Visits, visit_at}
use Rattle.pathsolver.proofs.Visiting.{same_step}

-- the table `new` once the room of `found` was sent over the arcs from the vertex of `step` to that of `found`
pub record Walk (old new : List Arc) (visits : Visits) (found step : Step) : Type 0 where
  pub alike : Alike old new
  pub here : visit_at visits step.vertex ≡ Some step
  pub narrow : found.room ≤ step.room
  pub takes : (s : Step) (k : ℕ) → visit_at visits s.vertex ≡ Some s → s.via ≡ Some k → s.distance ≤ step.distance → s.room ≤ (arc_at new k).remaining
  pub moved : Moved old new step.vertex found.vertex found.room

-- how a step that was reached by arc k follows the one before
before : {arcs : List Arc} {visits : Visits} {source : ℕ} → Trail arcs visits source → (s : Step) (k : ℕ) → visit_at visits s.vertex ≡ Some s → s.via ≡ Some k
    → (b : Step) × ((visit_at visits b.vertex ≡ Some b) × Follows arcs s k b)
before {arcs} {visits} {source} trail s k at via = subst (Reached arcs visits source s) via (trail.back s.vertex s at)

-- one arc further back
pub record Back (old new : List Arc) (visits : Visits) (found step : Step) (k : ℕ) : Type 0 where
  pub step_before : Step
  pub at : (a : Arc) → a ≡ arc_at new k → visit_at visits a.from ≡ Some step_before
  pub walk : Walk old (pushed new k found.room) visits found step_before

pub goes_back : {old new : List Arc} {visits : Visits} {n source : ℕ} {found step : Step} (k : ℕ) → Table new n → Walk old new visits found step → Trail old visits source → step.via ≡ Some k
    → Back old new visits found step k
goes_back {old} {new} {visits} {n} {source} {found} {step} k table walk trail via =
    let (b, (at, f)) = before trail step k walk.here via in
    let there : k < length new = omega (arith, f.there, walk.alike.long) in
    let room : found.room ≤ (arc_at new k).remaining = omega (arith, walk.narrow, walk.takes step k walk.here via (omega arith)) in
    let paired = table.paired k there in
    let from : (arc_at new k).from ≡ b.vertex = walk.alike.from k ∙ f.from in
    let to : (arc_at new k).to ≡ step.vertex = walk.alike.to k ∙ f.to in
    let d : ℕ = found.room in
    record {
      step_before = b;
      at = λ a e. ap (λ (x : Arc). visit_at visits x.from) e ∙ ap (visit_at visits) from ∙ at;
      walk = record {
        alike = alike_more walk.alike (pushed_alike new k d);
        here = at;
        narrow = omega (arith, walk.narrow, f.narrower);
        takes = λ s j e v le.
            let other : j ≢ k = λ (i : j ≡ k).
            let g = (before trail s j e v).1.1 in
            let same : s.vertex ≡ step.vertex = sym g.to ∙ ap (λ (x : ℕ). (arc_at old x).to) i ∙ f.to in
            let one : s ≡ step = same_step (sym e ∙ ap (visit_at visits) same ∙ walk.here) in
            omega (arith, f.farther, ap (λ (x : Step). x.distance) one) in
            omega (arith, walk.takes s j e v (omega (arith, f.farther)), pushed_others new k d there paired.there room j other);
        moved = λ X.
            omega (arith, walk.moved X, push_moves new k d there paired room X, ap (λ (v : ℕ). when (X v) d) from, ap (λ (v : ℕ). when (X v) d) to);
      };
    }
