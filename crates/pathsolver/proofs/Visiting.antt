-- One more vertex that a search has reached.
-- Assumes nothing.
use Rattle.std.proofs.Common.{◌≡◌, ℕ, ◌<◌, ◌≤◌, false, ◌⊎◌, List, length, set, is_some, Some, None, Option, sym, refl, ap, ◌∙◌, subst, inl, inr, ⊎_elim, arith, get_or-set_other, get_or-set_same}
use Rattle.std.proofs.lemmas.List.{get_or_past}
use Rattle.std.proofs.lemmas.Bool.{cases_eq, cases_lt, true≢false}
use Rattle.residual.specs.declared.arcs.Arc.{Arc}
use Rattle.residual.specs.Arcs.{arc_at}
use Rattle.residual.proofs.Frontier.{Grown, count, count_more, grown_set}
use Rattle.pathsolver.specs.declared.step.Step.{Step}
use Rattle.pathsolver.specs.Onward.{onward}
use Rattle.pathsolver.specs.Steps.{Follows, Reached, Trail, Visits, visit_at, visited}

pub same_step : {s t : Step} → Some s ≡ Some t → s ≡ t
same_step e = cc

pub none_some : {s : Step} → None ≡ Some s → ⊥
none_some e = let z : ◌≡◌ {A = ℕ} 0 1 = cc in omega arith

-- a vertex that was reached has its place in the list
pub visit_under : (visits : Visits) (v : ℕ) (s : Step) → visit_at visits v ≡ Some s → v < length visits
visit_under visits v s e = ⊎_elim (λ lt. lt) (λ le. absurd (none_some (sym (get_or_past visits v None le) ∙ e))) (cases_lt v (length visits))

-- what a search keeps of its steps
pub record Paths (arcs : List Arc) (n source : ℕ) (visits : Visits) : Type 0 where
  pub trail : Trail arcs visits source
  pub wide : (v : ℕ) (s : Step) → visit_at visits v ≡ Some s → 0 < s.room
  pub short : (v : ℕ) (s : Step) → visit_at visits v ≡ Some s → s.distance < count n (visited visits)

module _ (visits : Visits) (v : ℕ) (s : Step) (in' : v < length visits) (new : visited visits v ≡ false) where
  pub at_here : visit_at (set visits v (Some s)) v ≡ Some s
  at_here = get_or-set_same visits v (Some s) None in'

  pub at_still : (w : ℕ) (t : Step) → visit_at visits w ≡ Some t → visit_at (set visits v (Some s)) w ≡ Some t
  at_still w t e = get_or-set_other visits v w (Some s) None (λ (i : w ≡ v). true≢false (sym (ap is_some e) ∙ ap (visited visits) i ∙ new)) ∙ e

  at_before : (w : ℕ) (t : Step) → visit_at (set visits v (Some s)) w ≡ Some t → ((w ≡ v) × (s ≡ t)) ⊎ (visit_at visits w ≡ Some t)
  at_before w t e =
      ⊎_elim (λ (i : w ≡ v). inl (i, same_step (sym at_here ∙ ap (visit_at (set visits v (Some s))) (sym i) ∙ e)))
      (λ ne. inr (sym (get_or-set_other visits v w (Some s) None ne) ∙ e)) (cases_eq w v)

  pub grown : Grown (visited visits) (visited (set visits v (Some s))) v
  grown = grown_set is_some visits v (Some s) None in' refl

  -- what holds of the new step and of each old one holds of each
  each : (P : ℕ → Step → Type 0) → P v s → ((w : ℕ) (t : Step) → visit_at visits w ≡ Some t → P w t) → (w : ℕ) (t : Step) → visit_at (set visits v (Some s)) w ≡ Some t → P w t
  each P here old w t e = ⊎_elim (λ p. subst (λ (x : ℕ). P x t) (sym p.0) (subst (P v) p.1 here)) (old w t) (at_before w t e)

  reached_still : (arcs : List Arc) (source : ℕ) (t : Step) (via : Option ℕ) → Reached arcs visits source t via → Reached arcs (set visits v (Some s)) source t via
  reached_still arcs source t None h = h
  reached_still arcs source t (Some k) (b, (e, f)) = (b, (at_still b.vertex b e, f))

  pub paths_more : (arcs : List Arc) (n source : ℕ) → v < n → s.vertex ≡ v → Reached arcs visits source s s.via → 0 < s.room → s.distance ≤ count n (visited visits)
      → ((w : ℕ) (t : Step) → visit_at visits w ≡ Some t → (t.vertex ≡ w) × Reached arcs visits source t t.via)
      → ((w : ℕ) (t : Step) → visit_at visits w ≡ Some t → (0 < t.room) × (t.distance < count n (visited visits)))
      → Paths arcs n source (set visits v (Some s))
  paths_more arcs n source lt is reached wide near old firm =
      let more = count_more v grown new n lt in
      record {
        trail = record {
          vertex = each (λ w t. t.vertex ≡ w) is (λ w t e. (old w t e).0);
          back = each (λ w t. Reached arcs (set visits v (Some s)) source t t.via) (reached_still arcs source s s.via reached) (λ w t e. reached_still arcs source t t.via (old w t e).1);
        };
        wide = each (λ w t. 0 < t.room) wide (λ w t e. (firm w t e).0);
        short = each (λ w t. t.distance < count n (visited (set visits v (Some s)))) (omega (arith, more)) (λ w t e. omega (arith, more, (firm w t e).1));
      }

-- the source alone
pub paths_start : (arcs : List Arc) (n source : ℕ) (visits : Visits) (s : Step) → ((w : ℕ) → visit_at visits w ≡ None) → source < n → n ≤ length visits
    → s.vertex ≡ source → s.via ≡ None → 0 < s.room → s.distance ≡ 0 → Paths arcs n source (set visits source (Some s))
paths_start arcs n source visits s none lt long is via wide near =
    paths_more visits source s (omega arith) (ap is_some (none source)) arcs n source lt is (subst (Reached arcs visits source s) (sym via) is) wide (omega arith)
    (λ w t e. absurd (none_some (sym (none w) ∙ e))) (λ w t e. absurd (none_some (sym (none w) ∙ e)))

-- the step over arc k from the vertex of b to one that was not reached
pub paths_on : (arcs : List Arc) (n source : ℕ) (visits : Visits) (b : Step) (k : ℕ) → Paths arcs n source visits → visit_at visits b.vertex ≡ Some b
    → k < length arcs → (arc_at arcs k).from ≡ b.vertex → (arc_at arcs k).to < n → n ≤ length visits → visited visits (arc_at arcs k).to ≡ false → 0 < (arc_at arcs k).remaining
    → Paths arcs n source (set visits (arc_at arcs k).to (Some (onward b k (arc_at arcs k))))
paths_on arcs n source visits b k p at there from lt long new pos =
    let s : Step = onward b k (arc_at arcs k) in
    let wide = p.wide b.vertex b at in
    let near = p.short b.vertex b at in
    let follows : Follows arcs s k b = record { there = there; from = from; to = refl; farther = omega arith; narrower = omega arith; takes = omega arith } in
    paths_more visits (arc_at arcs k).to s (omega arith) new arcs n source lt refl (b, (at, follows)) (omega arith) (omega arith)
    (λ w t e. (p.trail.vertex w t e, p.trail.back w t e)) (λ w t e. (p.wide w t e, p.short w t e))
