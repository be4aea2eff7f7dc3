-- A push along an arc: what it leaves of the table, and what it moves.
-- Assumes nothing.
use Rattle.std.proofs.Common.{◌≡◌, ℕ, ◌+◌, ◌-◌, ◌^◌, ◌<◌, ◌≤◌, Bool, true, false, not, ◌&&◌, ◌≢◌, List, length, set, Option, sym, refl, ap, ◌∙◌, subst, ⊎_elim, arith, length-set, get_or-set_other, get_or-set_same, rules}
use Rattle.std.proofs.lemmas.List.{set_past}
use Rattle.std.proofs.lemmas.List.Sums.{sum_by-set, get_or-le-sum_by}
use Rattle.std.proofs.lemmas.Bool.{cases_eq, cases_lt}
use Rattle.network.specs.Net.{when}
use Rattle.residual.specs.declared.arcs.Arc.{Arc}
use Rattle.residual.specs.Arcs.{Alike, Moved, Paired, Table, arc_at, holding, leaves, no_arc, pushed, residual, reverse, total}
use Rattle.residual.specs.Laws.{PushMoves}
use Rattle.residual.specs.Star.{Indexed}
use Rattle.residual.proofs.Indexing.{indexed_alike}

pub reverse_other : (i : ℕ) → reverse i ≢ i
reverse_other i = search rules

-- writing an arc that agrees with the old one in f changes f nowhere
set_kept : (f : Arc → ℕ) (xs : List Arc) (j : ℕ) (z : Arc) → f z ≡ f (arc_at xs j) → (k : ℕ) → f (arc_at (set xs j z) k) ≡ f (arc_at xs k)
set_kept f xs j z e k =
    ⊎_elim
    (λ (s : k ≡ j).
    ⊎_elim
    (λ lt. ap (λ n. f (arc_at (set xs j z) n)) s ∙ ap f (get_or-set_same xs j z no_arc lt) ∙ e ∙ ap (λ n. f (arc_at xs n)) (sym s))
    (λ le. ap (λ l. f (arc_at l k)) (set_past xs j z le)) (cases_lt j (length xs)))
    (λ ne. ap f (get_or-set_other xs j k z no_arc ne)) (cases_eq k j)

pub alike_more : {a b c : List Arc} → Alike a b → Alike b c → Alike a c
alike_more s t = record {
  long = t.long ∙ s.long;
  from = λ k. t.from k ∙ s.from k;
  to = λ k. t.to k ∙ s.to k;
}

module _ (arcs : List Arc) (i d : ℕ) where
  abbrev lowered : Arc
  lowered = holding (arc_at arcs i) ((arc_at arcs i).remaining - d)

  abbrev raised : Arc
  raised = holding (arc_at arcs (reverse i)) ((arc_at arcs (reverse i)).remaining + d)

  kept : (f : Arc → ℕ) → ((a : Arc) (n : ℕ) → f (holding a n) ≡ f a) → (k : ℕ) → f (arc_at (pushed arcs i d) k) ≡ f (arc_at arcs k)
  kept f same k =
      let one = set_kept f arcs i lowered (same (arc_at arcs i) ((arc_at arcs i).remaining - d)) in
      set_kept f (set arcs i lowered) (reverse i) raised (same (arc_at arcs (reverse i)) ((arc_at arcs (reverse i)).remaining + d) ∙ sym (one (reverse i))) k ∙ one k

  pub pushed_alike : Alike arcs (pushed arcs i d)
  pushed_alike = record {
    long = simp length-set;
    from = kept (λ a. a.from) (λ a n. refl);
    to = kept (λ a. a.to) (λ a n. refl);
  }

  module _ (hi : i < length arcs) (hr : reverse i < length arcs) (hd : d ≤ (arc_at arcs i).remaining) where
    there : reverse i < length (set arcs i lowered)
    there = simp length-set hr

    -- the second write finds the reverse as it was
    unchanged : arc_at (set arcs i lowered) (reverse i) ≡ arc_at arcs (reverse i)
    unchanged = get_or-set_other arcs i (reverse i) lowered no_arc (reverse_other i)

    pushed_reverse : (arc_at (pushed arcs i d) (reverse i)).remaining ≡ (arc_at arcs (reverse i)).remaining + d
    pushed_reverse = ap (λ (a : Arc). a.remaining) (get_or-set_same (set arcs i lowered) (reverse i) raised no_arc there)

    -- no arc but i can take less
    pub pushed_others : (k : ℕ) → k ≢ i → (arc_at arcs k).remaining ≤ (arc_at (pushed arcs i d) k).remaining
    pushed_others k ne =
        ⊎_elim
        (λ (e : k ≡ reverse i). subst (λ n. (arc_at arcs n).remaining ≤ (arc_at (pushed arcs i d) n).remaining) (sym e) (omega (arith, pushed_reverse)))
        (λ nr.
        let s : arc_at (pushed arcs i d) k ≡ arc_at arcs k = get_or-set_other (set arcs i lowered) (reverse i) k raised no_arc nr ∙ get_or-set_other arcs i k lowered no_arc ne in
        omega (arith, ap (λ (a : Arc). a.remaining) s))
        (cases_eq k (reverse i))

    pub pushed_total : total (pushed arcs i d) ≡ total arcs
    unfolding total
    pushed_total =
        omega (arith, sum_by-set (λ a. a.remaining) arcs i lowered no_arc hi, sum_by-set (λ a. a.remaining) (set arcs i lowered) (reverse i) raised no_arc there, ap (λ (a : Arc). a.remaining) unchanged)

    pub pushed_small : total arcs < 2 ^ 64 → (arc_at arcs (reverse i)).remaining + d < 2 ^ 64
    unfolding total
    pushed_small small =
        let lr : reverse i < length (pushed arcs i d) = simp length-set hr in
        omega (arith, pushed_reverse, pushed_total, get_or-le-sum_by (λ a. a.remaining) (pushed arcs i d) (reverse i) no_arc lr)

    -- b and c say whether the ends of the arc are in the set, b' and c' the same of the reverse; r and m are what the two can take
    by_sides : (b c b' c' : Bool) (r m s s₁ s₂ : ℕ) → b' ≡ c → c' ≡ b → d ≤ r
        → s₁ + when (b && not c) r ≡ s + when (b && not c) (r - d)
        → s₂ + when (b' && not c') m ≡ s₁ + when (b' && not c') (m + d)
        → s₂ + when b d ≡ s + when c d
    by_sides true true b' c' r m s s₁ s₂ e f h p q = omega (arith, simp (e, f) at q)
    by_sides true false b' c' r m s s₁ s₂ e f h p q = omega (arith, simp (e, f) at q)
    by_sides false true b' c' r m s s₁ s₂ e f h p q = omega (arith, simp (e, f) at q)
    by_sides false false b' c' r m s s₁ s₂ e f h p q = omega (arith, simp (e, f) at q)

    pushed_moves : Paired arcs i → Moved arcs (pushed arcs i d) (arc_at arcs i).from (arc_at arcs i).to d
    unfolding residual
    pushed_moves paired X =
        by_sides (X (arc_at arcs i).from) (X (arc_at arcs i).to) (X (arc_at arcs (reverse i)).from) (X (arc_at arcs (reverse i)).to)
        (arc_at arcs i).remaining (arc_at arcs (reverse i)).remaining
        (residual X arcs) (residual X (set arcs i lowered)) (residual X (pushed arcs i d)) (ap X paired.from) (ap X paired.to) hd
        (sum_by-set (leaves X) arcs i lowered no_arc hi)
        (ap (λ a. residual X (pushed arcs i d) + leaves X a) (sym unchanged) ∙ sum_by-set (leaves X) (set arcs i lowered) (reverse i) raised no_arc there)

pub push_moves : PushMoves
push_moves arcs i d hi paired hd = pushed_moves arcs i d hi paired.there hd paired

pub table_kept : (old new : List Arc) (n : ℕ) → Alike old new → total new ≡ total old → Table old n → Table new n
table_kept old new n s t table =
    let shorter : (k : ℕ) → k < length new → k < length old = λ k lt. omega (arith, s.long) in
    record {
      paired = λ k lt.
          let p = table.paired k (shorter k lt) in
          record {
            there = omega (arith, p.there, s.long);
            from = s.from (reverse k) ∙ p.from ∙ sym (s.to k);
            to = s.to (reverse k) ∙ p.to ∙ sym (s.from k);
          };
      from = λ k lt. omega (arith, s.from k, table.from k (shorter k lt));
      to = λ k lt. omega (arith, s.to k, table.to k (shorter k lt));
      small = omega (arith, table.small);
    }

pub table_pushed : (arcs : List Arc) (n k d : ℕ) → Table arcs n → k < length arcs → d ≤ (arc_at arcs k).remaining → Table (pushed arcs k d) n
table_pushed arcs n k d table within room = table_kept arcs (pushed arcs k d) n (pushed_alike arcs k d) (pushed_total arcs k d within (table.paired k within).there room) table

pub fits_pushed : (arcs : List Arc) (n k d : ℕ) → Table arcs n → k < length arcs → d ≤ (arc_at arcs k).remaining → (arc_at arcs (reverse k)).remaining + d < 2 ^ 64
fits_pushed arcs n k d table within room = pushed_small arcs k d within (table.paired k within).there room table.small

pub indexed_pushed : (arcs : List Arc) (heads nexts : List (Option ℕ)) (k d : ℕ) → Indexed arcs heads nexts → Indexed (pushed arcs k d) heads nexts
indexed_pushed arcs heads nexts k d indexed = indexed_alike arcs (pushed arcs k d) heads nexts (pushed_alike arcs k d) indexed
