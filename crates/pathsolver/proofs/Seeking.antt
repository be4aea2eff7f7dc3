-- The search for a path: what holds between two steps, and among the arcs of one.
-- Assumes nothing.
use Rattle.std.proofs.Common.{◌≡◌, ℕ, ◌+◌, ◌<◌, ◌≤◌, Bool, true, false, ◌≢◌, List, [], ◌∷◌, ◌++◌, length, set, is_some, Some, None, Option, sym, refl, ap, ◌∙◌, subst, arith, length-set}
use Rattle.std.proofs.ByRecursion.{All-push, All-weaker}
use Rattle.std.specs.List.{AllByRecursion}
use Rattle.residual.specs.declared.arcs.Arc.{Arc}
use Rattle.residual.specs.declared.queue.Queue.{Queue}
use Rattle.residual.specs.Arcs.{Table, arc_at}
use Rattle.residual.specs.Reach.{Blocked}
use Rattle.residual.specs.Star.{latest}
use Rattle.residual.specs.Waiting.{room, waiting}
use Rattle.residual.proofs.Frontier.{count_room, grown_here, grown_other}
use Rattle.residual.proofs.Searching.{Among, Between, Gone, Popped, Queued, comes_to_end, fitted, goes_on, goes_past, sets_out, slot_for, slot_left, turns_back, turns_to}
use Rattle.pathsolver.specs.declared.step.Step.{Step}
use Rattle.pathsolver.specs.Onward.{onward}
use Rattle.pathsolver.specs.Steps.{Visits, visit_at, visited}
use Rattle.pathsolver.proofs.Visiting.{Paths, at_here, at_still, grown, paths_on, paths_start}

abbrev vertex : Step → ℕ
vertex s = s.vertex

-- each step that waits is the one of its vertex
abbrev Recorded : Visits → List Step → Type 0
Recorded visits q = AllByRecursion (λ s. visit_at visits s.vertex ≡ Some s) q

-- between two steps
pub record Outside (arcs : List Arc) (n source sink : ℕ) (visits : Visits) (q : Queue Step) : Type 0 where
  pub between : Between vertex arcs n source (visited visits) q
  pub paths : Paths arcs n source visits
  pub recorded : Recorded visits (waiting q)
  pub goal : visited visits sink ≡ false
  pub long : n ≤ length visits

-- among the arcs of a step
pub record Inside (arcs : List Arc) (n source sink : ℕ) (visits : Visits) (q₀ q : Queue Step) (step : Step) (next : Option ℕ) : Type 0 where
  pub among : Among vertex arcs n source (visited visits) q₀ q step.vertex next
  pub paths : Paths arcs n source visits
  pub recorded : Recorded visits (waiting q)
  pub here : visit_at visits step.vertex ≡ Some step
  pub goal : visited visits sink ≡ false
  pub long : n ≤ length visits

module _ {arcs : List Arc} {n source sink : ℕ} where
  pub starts : (visits : Visits) (s : Step) {q q' : Queue Step} {r : Bool} → ((w : ℕ) → visit_at visits w ≡ None) → source < n → n ≤ length visits → sink ≢ source
      → s.vertex ≡ source → s.via ≡ None → 0 < s.room → s.distance ≡ 0
      → n ≤ room q → waiting q ≡ [] → q.tail ≡ 0 → Queued q q' s r → Outside arcs n source sink (set visits source (Some s)) q'
  starts visits s {q} {q'} none lt long ne is via wide near slots empty at0 p =
      let lv : source < length visits = omega arith in
      let new : visited visits source ≡ false = ap is_some (none source) in
      let g = grown visits source s lv new in
      let w = fitted p (omega arith) in
      record {
        between = sets_out vertex arcs (λ v. ap is_some (none v)) g lt slots empty at0 is p;
        paths = paths_start arcs n source visits s none lt long is via wide near;
        recorded = subst (Recorded (set visits source (Some s))) (sym (w.list ∙ ap (λ (l : List Step). l ++ s ∷ []) empty))
            (ap (visit_at (set visits source (Some s))) is ∙ at_here visits source s lv new, tt);
        goal = grown_other g sink ne ∙ ap is_some (none sink);
        long = omega (arith, length-set visits source (Some s));
      }

  module _ {visits : Visits} where
    pub opens : {q q' : Queue Step} {x : Step} (next : Option ℕ) → next ≡ latest arcs x.vertex (length arcs) → Popped q q' x → Outside arcs n source sink visits q
        → Inside arcs n source sink visits q' q' x next
    opens {q} {q'} {x} next e p o =
        let all = subst (Recorded visits) p.next o.recorded in
        record { among = turns_to vertex arcs next e p o.between; paths = o.paths; recorded = all.1; here = all.0; goal = o.goal; long = o.long }

    pub passes : {q₀ q : Queue Step} {step : Step} {k : ℕ} (next : Option ℕ) → next ≡ latest arcs (arc_at arcs k).from k
        → (0 < (arc_at arcs k).remaining → visited visits (arc_at arcs k).to ≡ true) → Inside arcs n source sink visits q₀ q step (Some k) → Inside arcs n source sink visits q₀ q step next
    passes next e h i = record { among = goes_past vertex arcs next e h i.among; paths = i.paths; recorded = i.recorded; here = i.here; goal = i.goal; long = i.long }

    -- arc k leads to a vertex that was not reached
    module _ {q₀ q : Queue Step} {step : Step} {k : ℕ} (i : Inside arcs n source sink visits q₀ q step (Some k)) (to : (arc_at arcs k).to < n) (new : visited visits (arc_at arcs k).to ≡ false)
      where
        pub distance_fits : step.distance + 1 < n
        distance_fits =
            let g = grown visits (arc_at arcs k).to step (omega (arith, i.long)) new in
            omega (arith, i.paths.short step.vertex step i.here, count_room (arc_at arcs k).to g new n to)

        module _ (pos : 0 < (arc_at arcs k).remaining) where
          abbrev s : Step
          s = onward step k (arc_at arcs k)

          pub arrived : Paths arcs n source (set visits (arc_at arcs k).to (Some s))
          arrived = paths_on arcs n source visits step k i.paths i.here i.among.frontier.next_is.0 i.among.frontier.next_is.1 to i.long new pos

          pub visits_on : {q' : Queue Step} {r : Bool} → sink ≢ (arc_at arcs k).to → Queued q q' s r → Inside arcs n source sink (set visits (arc_at arcs k).to (Some s)) q₀ q' step (Some k)
          visits_on {q'} ne p =
              let v : ℕ = (arc_at arcs k).to in
              let is : s.vertex ≡ v = refl in
              let lv : v < length visits = omega (arith, i.long) in
              let g = grown visits v s lv new in
              let w = fitted p (slot_left vertex arcs g new to i.among) in
              let old : Recorded (set visits v (Some s)) (waiting q) = All-weaker _ _ (λ t e. at_still visits v s lv new t.vertex t e) (waiting q) i.recorded in
              record {
                among = goes_on vertex arcs g new to pos is p i.among;
                paths = arrived;
                recorded = subst (Recorded (set visits v (Some s))) (sym w.list) (All-push _ (waiting q) s old (at_here visits v s lv new));
                here = at_still visits v s lv new step.vertex step i.here;
                goal = grown_other g sink ne ∙ i.goal;
                long = omega (arith, i.long, length-set visits v (Some s));
              }

    pub closes : {q₀ q : Queue Step} {step : Step} → Inside arcs n source sink visits q₀ q step None → Outside arcs n source sink visits q
    closes i = record { between = turns_back vertex arcs i.among; paths = i.paths; recorded = i.recorded; goal = i.goal; long = i.long }

    pub ends : {q : Queue Step} → waiting q ≡ [] → Outside arcs n source sink visits q → Blocked arcs source sink
    ends e o = let r = comes_to_end vertex arcs e o.between in (visited visits, (r.start, o.goal, r.closed))

-- a turn of the loop over the arcs of a step, whose arc k has the record a
module _ {arcs : List Arc} {n source sink : ℕ} {visits : Visits} {q₀ q : Queue Step} {step : Step} {k : ℕ} {next later : Option ℕ} {a : Arc} (gone : Gone arcs next later k a)
    (i : Inside arcs n source sink visits q₀ q step next) (table : Table arcs n)
  where
    inside_at : Inside arcs n source sink visits q₀ q step (Some k)
    inside_at = subst (λ (o : Option ℕ). Inside arcs n source sink visits q₀ q step o) gone.was i

    to_at : (arc_at arcs k).to < n
    to_at = table.to k inside_at.among.frontier.next_is.0

    pub ends_under : a.to < n
    ends_under = subst (λ (b : Arc). b.to < n) (sym gone.arc) to_at

    pub goes_by : (0 < a.remaining → visited visits a.to ≡ true) → Inside arcs n source sink visits q₀ q step later
    goes_by h = passes later gone.after (subst (λ (b : Arc). 0 < b.remaining → visited visits b.to ≡ true) gone.arc h) inside_at

    module _ (new : visited visits a.to ≡ false) where
      new_at : visited visits (arc_at arcs k).to ≡ false
      new_at = subst (λ (b : Arc). visited visits b.to ≡ false) gone.arc new

      pub step_fits : step.distance + 1 < n
      step_fits = distance_fits inside_at to_at new_at

      pub finds_slot : q.tail < room q
      finds_slot = slot_for vertex arcs gone i.among table (grown visits a.to step (omega (arith, ends_under, i.long)) new) new

      module _ (pos : 0 < a.remaining) where
        pos_at : 0 < (arc_at arcs k).remaining
        pos_at = subst (λ (b : Arc). 0 < b.remaining) gone.arc pos

        pub paths_to : Paths arcs n source (set visits a.to (Some (onward step k a)))
        paths_to = subst (λ (b : Arc). Paths arcs n source (set visits b.to (Some (onward step k b)))) (sym gone.arc) (arrived inside_at to_at new_at pos_at)

        pub goes_in : {q' : Queue Step} {r : Bool} → sink ≢ a.to → Queued q q' (onward step k a) r → Inside arcs n source sink (set visits a.to (Some (onward step k a))) q₀ q' step later
        goes_in {q'} {r} =
            subst (λ (b : Arc). sink ≢ b.to → Queued q q' (onward step k b) r → Inside arcs n source sink (set visits b.to (Some (onward step k b))) q₀ q' step later) (sym gone.arc)
            (λ ne p.
            passes later gone.after (λ _. grown_here (grown visits (arc_at arcs k).to (onward step k (arc_at arcs k)) (omega (arith, to_at, i.long)) new_at))
            (visits_on inside_at to_at new_at pos_at ne p))
