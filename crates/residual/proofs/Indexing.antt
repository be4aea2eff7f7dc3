-- The loop that lists the arcs of each vertex, and what such a list says.
-- Assumes nothing.
use Rattle.std.proofs.Common.{◌≡◌, ℕ, zero, suc, ◌+◌, ◌<◌, ◌≤◌, true, false, cond, eqb, ◌≢◌, List, [], length, get_or, set, replicate, Some, None, Option, sym, refl, ap, ◌∙◌, ⊎_elim, add-one, arith, length-set, get_or-set_other, get_or-set_same, below_more}
use lib.ListN.{length-replicate}
use Rattle.std.proofs.lemmas.List.{get_or-replicate}
use Rattle.std.proofs.lemmas.Bool.{cases_eq, cases_Bool, cond-true, cond-false, eq-eqb, ne_eqb, eqb-true, eqb-false}
use Rattle.residual.specs.declared.arcs.Arc.{Arc}
use Rattle.residual.specs.Arcs.{Alike, arc_at}
use Rattle.residual.specs.Star.{Indexed, ahead, latest}

latest_here : (arcs : List Arc) (u i : ℕ) → (arc_at arcs i).from ≡ u → latest arcs u (i + 1) ≡ Some i
unfolding latest
latest_here arcs u i e = rw add-one (cond-true _ _ _ (eq-eqb _ _ e))

latest_before : (arcs : List Arc) (u i : ℕ) → ((arc_at arcs i).from ≡ u → ⊥) → latest arcs u (i + 1) ≡ latest arcs u i
unfolding latest
latest_before arcs u i ne = rw add-one (cond-false _ _ _ (ne_eqb _ _ ne))

-- the lists after the first i arcs
pub record Listed (arcs : List Arc) (heads nexts : List (Option ℕ)) (i : ℕ) : Type 0 where
  pub head : (u : ℕ) → u < length heads → get_or heads u None ≡ latest arcs u i
  pub next : (k : ℕ) → k < i → get_or nexts k None ≡ latest arcs (arc_at arcs k).from k

pub listed_none : (arcs : List Arc) (n : ℕ) (heads nexts : List (Option ℕ)) → heads ≡ replicate n None → Listed arcs heads nexts 0
unfolding latest
listed_none arcs n heads nexts e = record {
  head = λ u h. ap (λ l. get_or l u None) e ∙ get_or-replicate n u None None (omega (arith, ap length e, length-replicate {A = Option ℕ} n None));
  next = λ k h. absurd (omega arith);
}

pub listed_more : (arcs : List Arc) (heads nexts : List (Option ℕ)) (i u : ℕ) (h : Option ℕ) → (arc_at arcs i).from ≡ u → u < length heads → i < length nexts → h ≡ get_or heads u None
    → Listed arcs heads nexts i → Listed arcs (set heads u (Some i)) (set nexts i h) (i + 1)
listed_more arcs heads nexts i u h e in' room is l = record {
  head = λ w lt.
      ⊎_elim
      (λ (s : w ≡ u). ap (λ n. get_or (set heads u (Some i)) n None) s ∙ get_or-set_same heads u (Some i) None in' ∙ sym (latest_here arcs w i (e ∙ sym s)))
      (λ ne.
      get_or-set_other heads u w (Some i) None ne ∙ l.head w (omega (arith, length-set heads u (Some i)))
      ∙ sym (latest_before arcs w i (λ s. ne (sym s ∙ e))))
      (cases_eq w u);
  next = below_more _ i
      (λ k lt. let ne : k ≢ i = omega arith in get_or-set_other nexts i k h None ne ∙ l.next k lt)
      (get_or-set_same nexts i h None room ∙ is ∙ l.head u in' ∙ ap (λ w. latest arcs w i) (sym e));
}

pub listed_all : (arcs : List Arc) (heads nexts : List (Option ℕ)) (i : ℕ) → i ≡ length arcs → length arcs ≤ length nexts → Listed arcs heads nexts i → Indexed arcs heads nexts
listed_all arcs heads nexts i e room l = record {
  head = λ u h. l.head u h ∙ ap (latest arcs u) e;
  next = λ k h. l.next k (omega arith);
  long = room;
}

-- where there are no arcs, none is listed
pub indexed_none : (n : ℕ) (heads nexts : List (Option ℕ)) → heads ≡ replicate n None → Indexed [] heads nexts
indexed_none n heads nexts e = listed_all [] heads nexts 0 refl (omega arith) (listed_none [] n heads nexts e)

-- what the latest arc of u, of the first i, is
pub record Latest (arcs : List Arc) (u i k : ℕ) : Type 0 where
  pub under : k < i
  pub from : (arc_at arcs k).from ≡ u
  pub last : (j : ℕ) → k < j → j < i → (arc_at arcs j).from ≡ u → ⊥

some_is : {j k : ℕ} → Some j ≡ Some k → j ≡ k
some_is e = cc

pub latest_some : (arcs : List Arc) (u i k : ℕ) → latest arcs u i ≡ Some k → Latest arcs u i k
unfolding latest
latest_some arcs u zero k e = let z : ◌≡◌ {A = ℕ} 0 1 = cc in absurd (omega arith)
latest_some arcs u (suc i) k e =
    ⊎_elim
    (λ (b : eqb (arc_at arcs i).from u ≡ true).
    let s : i ≡ k = some_is (sym (cond-true _ _ _ b) ∙ e) in
    record { under = omega arith; from = ap (λ n. (arc_at arcs n).from) (sym s) ∙ eqb-true _ _ b; last = λ j lt le f. absurd (omega arith) })
    (λ (b : eqb (arc_at arcs i).from u ≡ false).
    let l = latest_some arcs u i k (sym (cond-false _ _ _ b) ∙ e) in
    record {
      under = omega (arith, l.under);
      from = l.from;
      last = λ j lt le f.
          ⊎_elim (λ (s : j ≡ i). eqb-false _ _ b (ap (λ n. (arc_at arcs n).from) (sym s) ∙ f)) (λ ne. l.last j lt (omega arith) f) (cases_eq j i);
    })
    (cases_Bool (eqb (arc_at arcs i).from u))

pub latest_none : (arcs : List Arc) (u i : ℕ) → latest arcs u i ≡ None → (j : ℕ) → j < i → (arc_at arcs j).from ≡ u → ⊥
unfolding latest
latest_none arcs u zero e j lt f = omega arith
latest_none arcs u (suc i) e j lt f =
    ⊎_elim
    (λ (b : eqb (arc_at arcs i).from u ≡ true).
    let z : ◌≡◌ {A = ℕ} 0 1 = let w : Some i ≡ None = sym (cond-true _ _ _ b) ∙ e in cc in
    absurd (omega arith))
    (λ (b : eqb (arc_at arcs i).from u ≡ false).
    ⊎_elim (λ (s : j ≡ i). eqb-false _ _ b (ap (λ n. (arc_at arcs n).from) (sym s) ∙ f)) (λ ne. latest_none arcs u i (sym (cond-false _ _ _ b) ∙ e) j (omega arith) f) (cases_eq j i))
    (cases_Bool (eqb (arc_at arcs i).from u))

-- the latest of the first j arcs of u is one of them
pub ahead_le : (arcs : List Arc) (u j : ℕ) (next : Option ℕ) → next ≡ latest arcs u j → ahead next ≤ j
ahead_le arcs u j None e = omega arith
ahead_le arcs u j (Some k) e = omega (arith, (latest_some arcs u j k (sym e)).under)

-- the first arc of a vertex is one of the table, and the one after arc k is one of those before it
pub first_under : (arcs : List Arc) (heads nexts : List (Option ℕ)) (u : ℕ) → Indexed arcs heads nexts → u < length heads → ahead (get_or heads u None) ≤ length arcs
first_under arcs heads nexts u x lt = ahead_le arcs u (length arcs) _ (x.head u lt)

pub next_under : (arcs : List Arc) (heads nexts : List (Option ℕ)) (k : ℕ) → Indexed arcs heads nexts → k < length arcs → ahead (get_or nexts k None) ≤ k
next_under arcs heads nexts k x lt = ahead_le arcs (arc_at arcs k).from k _ (x.next k lt)

-- the lists do not depend on what the arcs can take
latest_alike : (old new : List Arc) → Alike old new → (u i : ℕ) → latest new u i ≡ latest old u i
unfolding latest
latest_alike old new a u zero = refl
latest_alike old new a u (suc i) = λ t. cond (eqb (a.from i t) u) (Some i) (latest_alike old new a u i t)

pub indexed_alike : (old new : List Arc) (heads nexts : List (Option ℕ)) → Alike old new → Indexed old heads nexts → Indexed new heads nexts
indexed_alike old new heads nexts a x = record {
  head = λ u h. x.head u h ∙ sym (latest_alike old new a u (length old)) ∙ ap (latest new u) (sym a.long);
  next = λ k h. x.next k (omega (arith, a.long)) ∙ sym (latest_alike old new a _ k) ∙ ap (λ u. latest new u k) (sym (a.from k));
  long = omega (arith, a.long, x.long);
}
