-- The residual identity: that movements keep it, and what it says once nothing is held but at the sink.
-- Assumes nothing.
use Rattle.std.proofs.Common.{◌≡◌, ℕ, zero, suc, ◌+◌, ◌<◌, ◌≤◌, Bool, ◌≢◌, List, refl, ap, ◌∙◌, ⊎_elim, arith}
use Rattle.std.proofs.lemmas.Bool.{cases_eq, eq-eqb, ne_eqb}
use Rattle.network.specs.Net.{below, when}
use Rattle.mincut.specs.Flow.{Flow}
use Rattle.mincut.proofs.Sets.{below_same}
use Rattle.residual.specs.declared.arcs.Arc.{Arc}
use Rattle.residual.specs.Arcs.{Vertices}
use Rattle.residual.specs.Finished.{Finished}
use Rattle.residual.specs.Identity.{Identity, IdentityKept, Surplus, gained, lost, nothing}
use Rattle.residual.specs.Laid.{Laid, sink_of, source_of, vertices}
use Rattle.residual.specs.Reach.{Blocked}
use Rattle.residual.proofs.Amounts.{when_none, when_plus}

-- what is held inside X by the first n vertices
abbrev inside : ℕ → Vertices → Surplus → ℕ
inside n X held = below n (λ v. when (X v) (held v))

none_inside : (n : ℕ) (X : Vertices) (held : Surplus) → ((v : ℕ) → v < n → when (X v) (held v) ≡ 0) → inside n X held ≡ 0
unfolding below
none_inside zero X held h = refl
none_inside (suc n) X held h = omega (arith, none_inside n X held (λ v lt. h v (omega arith)), h n (omega arith))

-- two surpluses that differ at v alone, by d, differ by d inside the sets that have v
module _ (X : Vertices) (held more : Surplus) (v d : ℕ) (here : more v ≡ held v + d) (other : (w : ℕ) → w ≢ v → more w ≡ held w) where
  same_inside : (n : ℕ) → n ≤ v → inside n X more ≡ inside n X held
  same_inside n le = below_same n _ _ (λ w lt. let ne : w ≢ v = omega arith in ap (λ (x : ℕ). when (X w) x) (other w ne))

  more_inside : (n : ℕ) → v < n → inside n X more ≡ inside n X held + when (X v) d
  unfolding below
  more_inside zero lt = absurd (omega arith)
  more_inside (suc n) lt =
      ⊎_elim
      (λ (e : n ≡ v).
      omega (arith, same_inside n (omega arith), ap (λ (w : ℕ). when (X w) (more w)) e, ap (λ (w : ℕ). when (X w) (held w)) e, ap (λ (x : ℕ). when (X v) x) here, when_plus (X v) (held v) d))
      (λ ne. omega (arith, more_inside n (omega arith), ap (λ (x : ℕ). when (X n) x) (other n ne))) (cases_eq n v)

gained_inside : (n : ℕ) (X : Vertices) (held : Surplus) (v d : ℕ) → v < n → inside n X (gained held v d) ≡ inside n X held + when (X v) d
gained_inside n X held v d lt =
    more_inside X held (gained held v d) v d (ap (λ (b : Bool). held v + when b d) (eq-eqb v v refl))
    (λ w ne. omega (arith, ap (λ (b : Bool). when b d) (ne_eqb w v ne))) n lt

lost_inside : (n : ℕ) (X : Vertices) (held : Surplus) (u d : ℕ) → u < n → d ≤ held u → inside n X held ≡ inside n X (lost held u d) + when (X u) d
lost_inside n X held u d lt le =
    more_inside X (lost held u d) held u d (omega (arith, ap (λ (b : Bool). when b d) (eq-eqb u u refl)))
    (λ w ne. omega (arith, ap (λ (b : Bool). when b d) (ne_eqb w u ne))) n lt

pub identity_kept : IdentityKept
identity_kept n source start arcs sent held = record {
  begins = λ X. omega (arith, when_none (X source), none_inside n X nothing (λ v _. when_none (X v)));
  sends = λ new v d lt h m X. omega (arith, h X, m X, when_plus (X source) sent d, gained_inside n X held v d lt);
  passes = λ new u v d lu lv le h m X. omega (arith, h X, m X, lost_inside n X held u d lu le, gained_inside n X (lost held u d) v d lv);
}

-- once nothing is held but at the sink, each set that separates source and sink has lost what was sent
pub finished : (net : Flow) (start arcs : List Arc) (sent : ℕ) (held : Surplus) → Laid net start → Identity (vertices net.nodes) (source_of net.nodes) start arcs sent held
    → ((v : ℕ) → v ≢ sink_of net.nodes → held v ≡ 0) → Blocked arcs (source_of net.nodes) (sink_of net.nodes) → Finished net arcs sent
finished net start arcs sent held laid identity none blocked = record {
  kept = λ X h.
      let empty = none_inside (vertices net.nodes) X held
      (λ v _.
      ⊎_elim (λ (e : v ≡ sink_of net.nodes). ap (λ (b : Bool). when b (held v)) (ap X e ∙ h.sink)) (λ ne. ap (λ (x : ℕ). when (X v) x) (none v ne) ∙ when_none (X v)) (cases_eq v (sink_of net.nodes))) in
      omega (arith, identity X, laid.capacities X h, ap (λ (b : Bool). when b sent) h.source);
  blocked = blocked;
}
