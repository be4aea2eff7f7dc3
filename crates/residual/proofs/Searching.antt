-- The search over a queue whose elements each stand for a vertex, f of the element.
-- Assumes nothing.
use Rattle.std.proofs.Common.{◌≡◌, ℕ, ◌+◌, ◌<◌, ◌≤◌, Bool, true, false, cond, ltb, List, [], ◌∷◌, ◌++◌, map, length, get_or, replicate, Some, None, Option, MatchOption, option_map, sym, refl, ap, ◌∙◌, subst, ⊎_elim, arith}
use lib.ListN.{length-replicate}
use Rattle.std.proofs.lemmas.List.{get_or_past, get_or-replicate, map_push}
use Rattle.std.proofs.lemmas.Bool.{cases_lt, lt-ltb}
use Rattle.residual.specs.declared.arcs.Arc.{Arc}
use Rattle.residual.specs.declared.graph.leaving.Leaving.{Leaving}
use Rattle.residual.specs.declared.graph.lent.LentGraph.{LentGraph}
use Rattle.residual.specs.declared.queue.Queue.{Queue}
use Rattle.residual.specs.Arcs.{Table, Vertices, arc_at}
use Rattle.residual.specs.Leaving.{GoesOn}
use Rattle.residual.specs.Reach.{Reached}
use Rattle.residual.specs.Star.{latest}
use Rattle.residual.specs.Waiting.{room, waiting}
use Rattle.residual.proofs.Frontier.{Grown, Inner, Outer, closes, count_room, finishes, grown_here, opens, passes, starts, visits}

-- a list that was filled with d has d everywhere
pub filled : {X : Type 0} (xs : List X) (m : ℕ) (d : X) → xs ≡ replicate m d → (v : ℕ) → get_or xs v d ≡ d
filled xs m d e v =
    ap (λ l. get_or l v d) e ∙ ⊎_elim (get_or-replicate m v d d) (λ le. get_or_past (replicate m d) v d (omega (arith, length-replicate m d))) (cases_lt v m)

-- what a push leaves of a queue
pub record Queued {X : Type 0} (q q' : Queue X) (x : X) (r : Bool) : Type 0 where
  pub fits : r ≡ ltb q.tail (room q)
  pub queued : waiting q' ≡ cond r (waiting q ++ x ∷ []) (waiting q)
  pub kept : q'.head ≡ q.head
  pub used : q'.tail ≡ cond r (q.tail + 1) q.tail
  pub room : room q' ≡ room q

-- what a pop that finds x leaves of it
pub record Popped {X : Type 0} (q q' : Queue X) (x : X) : Type 0 where
  pub next : waiting q ≡ x ∷ waiting q'
  pub used : q'.tail ≡ q.tail
  pub room : room q' ≡ room q

pub record Fitted {X : Type 0} (q q' : Queue X) (x : X) : Type 0 where
  pub list : waiting q' ≡ waiting q ++ x ∷ []
  pub tail : q'.tail ≡ q.tail + 1

pub fitted : {X : Type 0} {q q' : Queue X} {x : X} {r : Bool} → Queued q q' x r → q.tail < room q → Fitted q q' x
fitted {q = q} {r = r} p lt =
    let yes : r ≡ true = p.fits ∙ lt-ltb q.tail (room q) lt in
    record { list = p.queued ∙ simp yes; tail = p.used ∙ simp yes }

-- the iterator over the arcs of a vertex has given arc k, whose record is a
pub record Gone (arcs : List Arc) (next later : Option ℕ) (k : ℕ) (a : Arc) : Type 0 where
  pub was : next ≡ Some k
  pub arc : a ≡ arc_at arcs k
  pub after : later ≡ latest arcs (arc_at arcs k).from k

abbrev with_arc : List Arc → ℕ → ℕ × Arc
with_arc arcs j = (j, arc_at arcs j)

gone_by : (arcs : List Arc) (next later : Option ℕ) (k : ℕ) (a : Arc) → ◌≡◌ {A = Option (ℕ × Arc)} (Some (k, a)) (option_map (with_arc arcs) next)
    → MatchOption next (later ≡ None) (λ j. later ≡ latest arcs (arc_at arcs j).from j) → Gone arcs next later k a
gone_by arcs None later k a e h = let z : ◌≡◌ {A = ℕ} 0 1 = cc in absurd (omega arith)
gone_by arcs (Some j) later k a e h =
    let same : ◌≡◌ {A = ℕ × Arc} (k, a) (with_arc arcs j) = cc in
    let is : k ≡ j = ap (λ (p : ℕ × Arc). p.0) same in
    record {
      was = ap Some (sym is);
      arc = ap (λ (p : ℕ × Arc). p.1) same ∙ ap (arc_at arcs) (sym is);
      after = h ∙ ap (λ (i : ℕ). latest arcs (arc_at arcs i).from i) (sym is);
    }

pub gone : {arcs : List Arc} {k : ℕ} {a : Arc} (s t : Leaving) → s.graph.arcs.now ≡ arcs → GoesOn s (Some (k, a)) t → Gone arcs s.next t.next k a
gone {k = k} {a} s t e h = subst (λ (l : List Arc). Gone l s.next t.next k a) e (gone_by s.graph.arcs.now s.next t.next k a h.0 h.2)

-- it goes on in the same graph
pub same_graph : {graph : LentGraph} {r : Option (ℕ × Arc)} (s t : Leaving) → s.graph ≡ graph → GoesOn s r t → t.graph ≡ graph
same_graph s t e h = h.1 ∙ e

-- and so over the same arcs
pub same_arcs : {arcs : List Arc} {r : Option (ℕ × Arc)} (s t : Leaving) → s.graph.arcs.now ≡ arcs → GoesOn s r t → t.graph.arcs.now ≡ arcs
same_arcs s t e h = ap (λ (g : LentGraph). g.arcs.now) (same_graph s t refl h) ∙ e

none_by : (arcs : List Arc) (next : Option ℕ) → ◌≡◌ {A = Option (ℕ × Arc)} None (option_map (with_arc arcs) next) → next ≡ None
none_by arcs None e = refl
none_by arcs (Some j) e = let z : ◌≡◌ {A = ℕ} 0 1 = cc in absurd (omega arith)

pub all_gone : (s t : Leaving) → GoesOn s None t → s.next ≡ None
all_gone s t h = none_by s.graph.arcs.now s.next h.0

module _ {X : Type 0} (f : X → ℕ) (arcs : List Arc) where
  -- between two vertices
  pub record Between (n source : ℕ) (R : Vertices) (q : Queue X) : Type 0 where
    pub frontier : Outer arcs n source R (map f (waiting q)) q.tail
    pub slots : n ≤ room q

  -- among the arcs of u; q₀ is the queue as it was at the first of them
  pub record Among (n source : ℕ) (R : Vertices) (q₀ q : Queue X) (u : ℕ) (next : Option ℕ) : Type 0 where
    pub frontier : Inner arcs n source R (map f (waiting q)) q.tail u next
    pub slots : n ≤ room q
    pub head : q.head ≡ q₀.head
    pub same : room q ≡ room q₀

  module _ {n source : ℕ} {R : Vertices} where
    pub sets_out : {R₀ : Vertices} {q q' : Queue X} {x : X} {r : Bool} → ((v : ℕ) → R₀ v ≡ false) → Grown R₀ R source → source < n → n ≤ room q → waiting q ≡ [] → q.tail ≡ 0
        → f x ≡ source → Queued q q' x r → Between n source R q'
    sets_out {q = q} {q'} {x} none g lt slots empty at0 e p =
        let w : Fitted q q' x = fitted p (omega arith) in
        let l : map f (waiting q') ≡ source ∷ [] = ap (map f) (w.list ∙ ap (λ (l : List X). l ++ x ∷ []) empty) ∙ ap (λ (v : ℕ). v ∷ []) e in
        let t : q'.tail ≡ 1 = omega (arith, w.tail) in
        record {
          frontier = subst (λ (m : ℕ). Outer arcs n source R (map f (waiting q')) m) (sym t) (subst (λ (l : List ℕ). Outer arcs n source R l 1) (sym l) (starts arcs none g lt));
          slots = omega (arith, p.room);
        }

    pub turns_to : {q q' : Queue X} {x : X} (next : Option ℕ) → next ≡ latest arcs (f x) (length arcs) → Popped q q' x → Between n source R q → Among n source R q' q' (f x) next
    turns_to {q} {q'} {x} next e p b = record {
      frontier = opens arcs next e (subst (λ (m : ℕ). Outer arcs n source R (f x ∷ map f (waiting q')) m) (sym p.used) (subst (λ (l : List X). Outer arcs n source R (map f l) q.tail) p.next b.frontier));
      slots = omega (arith, p.room, b.slots);
      head = refl;
      same = refl;
    }

    pub goes_past : {q₀ q : Queue X} {u k : ℕ} (next : Option ℕ) → next ≡ latest arcs (arc_at arcs k).from k
        → (0 < (arc_at arcs k).remaining → R (arc_at arcs k).to ≡ true) → Among n source R q₀ q u (Some k) → Among n source R q₀ q u next
    goes_past next e h a = record { frontier = passes arcs next e h a.frontier; slots = a.slots; head = a.head; same = a.same }

    -- there is a slot for one more
    pub slot_left : {R' : Vertices} {q₀ q : Queue X} {u v : ℕ} {next : Option ℕ} → Grown R R' v → R v ≡ false → v < n → Among n source R q₀ q u next → q.tail < room q
    slot_left {v = v} g new lt a = omega (arith, a.slots, a.frontier.base.used-is, count_room v g new n lt)

    pub goes_on : {R' : Vertices} {q₀ q q' : Queue X} {x : X} {r : Bool} {u k : ℕ} → Grown R R' (arc_at arcs k).to → R (arc_at arcs k).to ≡ false → (arc_at arcs k).to < n → 0 < (arc_at arcs k).remaining
        → f x ≡ (arc_at arcs k).to → Queued q q' x r → Among n source R q₀ q u (Some k) → Among n source R' q₀ q' u (Some k)
    goes_on {R'} {q₀} {q} {q'} {x} {u = u} {k} g new lt pos e p a =
        let w : Fitted q q' x = fitted p (slot_left g new lt a) in
        let l : map f (waiting q') ≡ map f (waiting q) ++ (arc_at arcs k).to ∷ [] = ap (map f) w.list ∙ map_push f (waiting q) x ∙ ap (λ (v : ℕ). map f (waiting q) ++ v ∷ []) e in
        record {
          frontier = subst (λ (m : ℕ). Inner arcs n source R' (map f (waiting q')) m u (Some k)) (sym w.tail)
              (subst (λ (l : List ℕ). Inner arcs n source R' l (q.tail + 1) u (Some k)) (sym l) (visits arcs g new lt pos a.frontier));
          slots = omega (arith, a.slots, p.room);
          head = p.kept ∙ a.head;
          same = p.room ∙ a.same;
        }

    pub turns_back : {q₀ q : Queue X} {u : ℕ} → Among n source R q₀ q u None → Between n source R q
    turns_back a = record { frontier = closes arcs a.frontier; slots = a.slots }

    pub comes_to_end : {q : Queue X} → waiting q ≡ [] → Between n source R q → Reached arcs source R
    comes_to_end {q} e b = finishes arcs (subst (λ (l : List X). Outer arcs n source R (map f l) q.tail) e b.frontier)

  -- a turn of the loop over the arcs of u that takes in a vertex, and one that does not
  module _ {n source : ℕ} {R : Vertices} {q₀ q : Queue X} {u k : ℕ} {next later : Option ℕ} {a : Arc} (gone : Gone arcs next later k a) (among : Among n source R q₀ q u next) where
    among_at : Among n source R q₀ q u (Some k)
    among_at = subst (λ (o : Option ℕ). Among n source R q₀ q u o) gone.was among

    to_is : (arc_at arcs k).to ≡ a.to
    to_is = sym (ap (λ (b : Arc). b.to) gone.arc)

    pub to_under : Table arcs n → a.to < n
    to_under table = subst (λ (v : ℕ). v < n) to_is (table.to k among_at.frontier.next_is.0)

    pub slot_for : {R' : Vertices} → Table arcs n → Grown R R' a.to → R a.to ≡ false → q.tail < room q
    slot_for table g new = slot_left g new (to_under table) among

    pub takes_in : {R' : Vertices} {q' : Queue X} {x : X} {r : Bool} → Table arcs n → Grown R R' a.to → R a.to ≡ false → 0 < a.remaining → f x ≡ a.to → Queued q q' x r
        → Among n source R' q₀ q' u later
    takes_in {R'} table g new pos is p =
        let g' = subst (λ (v : ℕ). Grown R R' v) (sym to_is) g in
        let on = goes_on g' (ap R to_is ∙ new) (table.to k among_at.frontier.next_is.0) (subst (λ (b : Arc). 0 < b.remaining) gone.arc pos) (is ∙ sym to_is) p among_at in
        goes_past {R = R'} later gone.after (λ _. grown_here g') on

    pub passes_by : (0 < a.remaining → R a.to ≡ true) → Among n source R q₀ q u later
    passes_by h = goes_past later gone.after (subst (λ (b : Arc). 0 < b.remaining → R b.to ≡ true) gone.arc h) among_at
