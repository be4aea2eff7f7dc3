-- A breadth-first search over arcs with residual capacity: each vertex that is reached waits or is done.
-- Assumes nothing.
use Rattle.std.proofs.Common.{◌≡◌, ℕ, zero, suc, ◌+◌, ◌<◌, ◌≤◌, Bool, true, false, cond, eqb, ◌≢◌, ◌⊎◌, List, [], ◌∷◌, ◌++◌, length, get_or, set, Some, None, Option, sym, refl, ap, ◌∙◌, subst, inl, inr, ⊎_elim, arith, get_or-set_other, get_or-set_same}
use Rattle.std.proofs.ByRecursion.{All-push, All-weaker, has_append_left, has_push}
use Rattle.std.proofs.lemmas.Bool.{cases_eq, cases_lt, cond-false, cond-true, eq-eqb, ne_eqb, true≢false}
use Rattle.std.specs.List.{ContainsAt as Has, AllByRecursion}
use Rattle.network.specs.Net.{below, when}
use Rattle.residual.specs.declared.arcs.Arc.{Arc}
use Rattle.residual.specs.Arcs.{Vertices, arc_at}
use Rattle.residual.specs.Reach.{Closed, Reached}
use Rattle.residual.specs.Star.{ahead, latest}
use Rattle.residual.proofs.Amounts.{when_le}
use Rattle.residual.proofs.Indexing.{latest_none, latest_some}

-- R' is R with v
pub record Grown (R R' : Vertices) (v : ℕ) : Type 0 where
  pub is : (w : ℕ) → R' w ≡ cond (eqb w v) true (R w)

-- writing x, which passes the test f, at place v of a list adds v to the places that pass
pub grown_set : {X : Type 0} (f : X → Bool) (xs : List X) (v : ℕ) (x d : X) → v < length xs → f x ≡ true → Grown (λ w. f (get_or xs w d)) (λ w. f (get_or (set xs v x) w d)) v
grown_set f xs v x d lt e = record {
  is = λ w.
      ⊎_elim
      (λ (s : w ≡ v). ap (λ n. f (get_or (set xs v x) n d)) s ∙ ap f (get_or-set_same xs v x d lt) ∙ e ∙ sym (cond-true _ _ _ (eq-eqb w v s)))
      (λ ne. ap f (get_or-set_other xs v w x d ne) ∙ sym (cond-false _ _ _ (ne_eqb w v ne))) (cases_eq w v);
}

module _ {R R' : Vertices} {v : ℕ} (g : Grown R R' v) where
  pub grown_here : R' v ≡ true
  grown_here = g.is v ∙ cond-true _ _ _ (eq-eqb v v refl)

  pub grown_other : (w : ℕ) → w ≢ v → R' w ≡ R w
  grown_other w ne = g.is w ∙ cond-false _ _ _ (ne_eqb w v ne)

  pub grown_still : (w : ℕ) → R w ≡ true → R' w ≡ true
  grown_still w h = ⊎_elim (λ (s : w ≡ v). ap R' s ∙ grown_here) (λ ne. grown_other w ne ∙ h) (cases_eq w v)

  pub grown_before : (w : ℕ) → R' w ≡ true → (w ≡ v) ⊎ (R w ≡ true)
  grown_before w h = ⊎_elim (λ s. inl s) (λ ne. inr (sym (grown_other w ne) ∙ h)) (cases_eq w v)

-- how many of the first n vertices are in R
unfoldable pub count : ℕ → Vertices → ℕ
count n R = below n (λ v. when (R v) 1)

count_le : (n : ℕ) (R : Vertices) → count n R ≤ n
unfolding count below
count_le zero R = omega arith
count_le (suc n) R = omega (arith, count_le n R, when_le (R n) 1)

pub count_none : (n : ℕ) (R : Vertices) → ((v : ℕ) → R v ≡ false) → count n R ≡ 0
unfolding count below
count_none zero R h = refl
count_none (suc n) R h = omega (arith, count_none n R h, ap (λ (b : Bool). when b 1) (h n))

module _ {R R' : Vertices} (v : ℕ) (g : Grown R R' v) (new : R v ≡ false) where
  count_same : (n : ℕ) → n ≤ v → count n R' ≡ count n R
  unfolding count below
  count_same zero le = refl
  count_same (suc n) le =
      let ne : n ≢ v = omega arith in
      omega (arith, count_same n (omega arith), ap (λ (b : Bool). when b 1) (grown_other g n ne))

  pub count_more : (n : ℕ) → v < n → count n R' ≡ count n R + 1
  unfolding count below
  count_more zero lt = absurd (omega arith)
  count_more (suc n) lt =
      ⊎_elim
      (λ (s : n ≡ v).
      omega (arith, count_same n (omega arith), ap (λ (b : Bool). when b 1) (ap R' s ∙ grown_here g), ap (λ (b : Bool). when b 1) (ap R s ∙ new)))
      (λ ne. omega (arith, count_more n (omega arith), ap (λ (b : Bool). when b 1) (grown_other g n ne))) (cases_eq n v)

  -- one more fits
  pub count_room : (n : ℕ) → v < n → count n R < n
  count_room n lt = omega (arith, count_more n lt, count_le n R')

module _ (arcs : List Arc) where
  -- each arc from u that is numbered j or above, and has residual capacity, leads into R
  abbrev pub Done : Vertices → ℕ → ℕ → Type 0
  Done R u j = (k : ℕ) → j ≤ k → k < length arcs → (arc_at arcs k).from ≡ u → 0 < (arc_at arcs k).remaining → R (arc_at arcs k).to ≡ true

  -- the next arc of u, where there is one, starts at u
  abbrev pub Next : ℕ → Option ℕ → Type 0
  Next u None = Unit {0}
  Next u (Some k) = (k < length arcs) × ((arc_at arcs k).from ≡ u)

  -- what a search keeps: which vertices are reached, which of them wait, and how many are reached
  pub record Base (n source : ℕ) (R : Vertices) (q : List ℕ) (used : ℕ) : Type 0 where
    pub start : R source ≡ true
    pub waits : AllByRecursion (λ w. R w ≡ true) q
    pub least : (X : Vertices) → X source ≡ true → Closed arcs X → (w : ℕ) → R w ≡ true → X w ≡ true
    pub under : (w : ℕ) → R w ≡ true → w < n
    pub used-is : used ≡ count n R

  -- between two vertices
  pub record Outer (n source : ℕ) (R : Vertices) (q : List ℕ) (used : ℕ) : Type 0 where
    pub base : Base n source R q used
    pub front : (w : ℕ) → R w ≡ true → Has q w ⊎ Done R w 0

  -- among the arcs of u
  pub record Inner (n source : ℕ) (R : Vertices) (q : List ℕ) (used u : ℕ) (next : Option ℕ) : Type 0 where
    pub base : Base n source R q used
    pub here : R u ≡ true
    pub front : (w : ℕ) → R w ≡ true → (w ≡ u) ⊎ (Has q w ⊎ Done R w 0)
    pub next_is : Next u next
    pub done : Done R u (ahead next)

  has_cons : (x : ℕ) (xs : List ℕ) (w : ℕ) → Has (x ∷ xs) w → (w ≡ x) ⊎ Has xs w
  has_cons x xs w (zero, lt, at) = inl (sym (at x))
  has_cons x xs w (suc k, lt, at) = inr (k, omega arith, at)

  has_none : (w : ℕ) → Has [] w → ⊥
  has_none w (k, lt, at) = omega arith

  -- on to the latest arc of u below j
  next_at : (R : Vertices) (u j : ℕ) (next : Option ℕ) → j ≤ length arcs → next ≡ latest arcs u j → Done R u j → Next u next × Done R u (ahead next)
  next_at R u j None le e d = (tt, λ k lo lt f. ⊎_elim (λ (l : k < j). absurd (latest_none arcs u j (sym e) k l f)) (λ h. d k h lt f) (cases_lt k j))
  next_at R u j (Some i) le e d =
      let l = latest_some arcs u j i (sym e) in
      ((omega (arith, l.under), l.from), λ k lo lt f. ⊎_elim (λ (b : k < j). absurd (l.last k (omega arith) b f)) (λ h. d k h lt f) (cases_lt k j))

  module _ {n source : ℕ} {R : Vertices} where
    pub starts : {R₀ : Vertices} → ((v : ℕ) → R₀ v ≡ false) → Grown R₀ R source → source < n → Outer n source R (source ∷ []) 1
    starts {R₀} none g lt = record {
      base = record {
        start = grown_here g;
        waits = (grown_here g, tt);
        least = λ X s c w h. ⊎_elim (λ (e : w ≡ source). ap X e ∙ s) (λ o. absurd (true≢false (sym o ∙ none w))) (grown_before g w h);
        under = λ w h. ⊎_elim (λ (e : w ≡ source). subst (λ x. x < n) (sym e) lt) (λ o. absurd (true≢false (sym o ∙ none w))) (grown_before g w h);
        used-is = omega (arith, count_more source g (none source) n lt, count_none n R₀ none);
      };
      front = λ w h.
          ⊎_elim (λ (e : w ≡ source). inl (subst (Has (source ∷ [])) (sym e) (has_push [] source))) (λ o. absurd (true≢false (sym o ∙ none w))) (grown_before g w h);
    }

    pub opens : {q : List ℕ} {used u : ℕ} (next : Option ℕ) → next ≡ latest arcs u (length arcs) → Outer n source R (u ∷ q) used → Inner n source R q used u next
    opens {q} {used} {u} next e o =
        let at = next_at R u (length arcs) next (omega arith) e (λ k lo lt. absurd (omega arith)) in
        record {
          base = record { start = o.base.start; waits = o.base.waits.1; least = o.base.least; under = o.base.under; used-is = o.base.used-is };
          here = o.base.waits.0;
          front = λ w h. ⊎_elim (λ l. ⊎_elim (λ s. inl s) (λ k. inr (inl k)) (has_cons u q w l)) (λ d. inr (inr d)) (o.front w h);
          next_is = at.0;
          done = at.1;
        }

    -- past arc k, which leads into R or has no residual capacity
    pub passes : {q : List ℕ} {used u k : ℕ} (next : Option ℕ) → next ≡ latest arcs (arc_at arcs k).from k
        → (0 < (arc_at arcs k).remaining → R (arc_at arcs k).to ≡ true) → Inner n source R q used u (Some k) → Inner n source R q used u next
    passes {q} {used} {u} {k} next e h i =
        let f : (arc_at arcs k).from ≡ u = i.next_is.1 in
        let d : Done R u k = λ j lo lt from pos.
        ⊎_elim (λ (s : j ≡ k). ap (λ m. R (arc_at arcs m).to) s ∙ h (subst (λ m. 0 < (arc_at arcs m).remaining) s pos)) (λ ne. i.done j (omega arith) lt from pos) (cases_eq j k) in
        let at = next_at R u k next (omega (arith, i.next_is.0)) (e ∙ ap (λ w. latest arcs w k) f) d in
        record { base = i.base; here = i.here; front = i.front; next_is = at.0; done = at.1 }

    -- arc k leads to a vertex that is not reached yet
    pub visits : {R' : Vertices} {q : List ℕ} {used u k : ℕ} → Grown R R' (arc_at arcs k).to → R (arc_at arcs k).to ≡ false → (arc_at arcs k).to < n → 0 < (arc_at arcs k).remaining
        → Inner n source R q used u (Some k) → Inner n source R' (q ++ (arc_at arcs k).to ∷ []) (used + 1) u (Some k)
    visits {R'} {q} {used} {u} {k} g new lt pos i =
        let v : ℕ = (arc_at arcs k).to in
        let still : (w : ℕ) → R w ≡ true → R' w ≡ true = grown_still g in
        let here : R' v ≡ true = grown_here g in
        record {
          base = record {
            start = still source i.base.start;
            waits = All-push _ q v (All-weaker _ _ still q i.base.waits) here;
            least = λ X s c w h.
                ⊎_elim
                (λ (e : w ≡ v). ap X e ∙ c k i.next_is.0 (i.base.least X s c (arc_at arcs k).from (ap R i.next_is.1 ∙ i.here)) pos)
                (λ o. i.base.least X s c w o) (grown_before g w h);
            under = λ w h. ⊎_elim (λ (e : w ≡ v). subst (λ x. x < n) (sym e) lt) (i.base.under w) (grown_before g w h);
            used-is = omega (arith, i.base.used-is, count_more v g new n lt);
          };
          here = still u i.here;
          front = λ w h.
              ⊎_elim
              (λ (e : w ≡ v). inr (inl (subst (Has (q ++ v ∷ [])) (sym e) (has_push q v))))
              (λ o. ⊎_elim (λ e. inl e) (λ l. inr (⊎_elim (λ h. inl (has_append_left q (v ∷ []) w h)) (λ d. inr (λ j lo l f p. still _ (d j lo l f p))) l)) (i.front w o))
              (grown_before g w h);
          next_is = i.next_is;
          done = λ j lo l f p. still _ (i.done j lo l f p);
        }

    pub closes : {q : List ℕ} {used u : ℕ} → Inner n source R q used u None → Outer n source R q used
    closes {u = u} i = record {
      base = i.base;
      front = λ w h. ⊎_elim (λ (e : w ≡ u). inr (subst (λ x. Done R x 0) (sym e) i.done)) (λ l. l) (i.front w h);
    }

    pub finishes : {used : ℕ} → Outer n source R [] used → Reached arcs source R
    finishes o = record {
      start = o.base.start;
      closed = λ k lt h pos. ⊎_elim (λ l. absurd (has_none _ l)) (λ d. d k (omega arith) lt refl pos) (o.front (arc_at arcs k).from h);
      least = o.base.least;
    }
