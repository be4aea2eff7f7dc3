-- How much can be sent, and that it is all sent at the end.
-- Assumes nothing.
use Rattle.std.proofs.Common.{◌≡◌, ℕ, ◌+◌, ◌<◌, ◌≤◌, Bool, not, ◌&&◌, eqb, ◌≢◌, List, [], ◌∷◌, sym, refl, ap, zero-add, arith}
use Rattle.std.proofs.lemmas.List.Sums.{sum_by-cons}
use Rattle.std.proofs.lemmas.Bool.{eq-eqb, ne_eqb}
use Rattle.network.specs.Net.{when}
use Rattle.residual.specs.declared.arcs.Arc.{Arc}
use Rattle.residual.specs.Arcs.{Moved, Vertices, leaves, residual, total}
use Rattle.residual.specs.Identity.{Identity, gained, nothing}
use Rattle.residual.proofs.Amounts.{when_le, when_plus}
use Rattle.residual.proofs.Balance.{identity_kept}

-- the most that can leave the source: the residual capacity of the source alone
pub most : List Arc → ℕ → ℕ
most arcs source = residual (λ v. eqb source v) arcs

residual_le : (X : Vertices) (arcs : List Arc) → residual X arcs ≤ total arcs
unfolding residual total
residual_le X [] = omega arith
residual_le X (a ∷ arcs) =
    omega (arith, sum_by-cons (leaves X) a arcs, sum_by-cons (λ (x : Arc). x.remaining) a arcs, residual_le X arcs, when_le (X a.from && not (X a.to)) a.remaining)

pub most_le : (arcs : List Arc) (source : ℕ) → most arcs source ≤ total arcs
unfolding most
most_le arcs source = residual_le (λ v. eqb source v) arcs

sent_le : (old new : List Arc) (source sink s : ℕ) → sink ≢ source → Moved old new source sink s → s ≤ most old source
unfolding most
sent_le old new source sink s ne p =
    omega (arith, p (λ v. eqb source v), ap (λ (b : Bool). when b s) (eq-eqb source source refl), ap (λ (b : Bool). when b s) (ne_eqb source sink (λ e. ne (sym e))))

-- two amounts one after the other
moved_more : (a b c : List Arc) (u v s t : ℕ) → Moved a b u v s → Moved b c u v t → Moved a c u v (s + t)
moved_more a b c u v s t p q X = omega (arith, p X, q X, when_plus (X u) s t, when_plus (X v) s t)

-- what has been sent after one path more
pub record Sent (old new : List Arc) (source sink sent : ℕ) : Type 0 where
  pub moved : Moved old new source sink sent
  pub small : sent ≤ most old source

pub sent_more : (old arcs new : List Arc) (source sink sent room : ℕ) → sink ≢ source → Moved old arcs source sink sent → Moved arcs new source sink room → Sent old new source sink (sent + room)
sent_more old arcs new source sink sent room ne before path =
    let more = moved_more old arcs new source sink sent room before path in
    record { moved = more; small = sent_le old new source sink (sent + room) ne more }

-- the identity, with all that was sent held at the sink
pub identity : (n : ℕ) (old new : List Arc) (source sink sent : ℕ) → sink < n → Moved old new source sink sent → Identity n source old new sent (gained nothing sink sent)
identity n old new source sink sent lt moved =
    let kept = identity_kept n source old old 0 nothing in
    λ X. omega (arith, kept.sends new sink sent lt kept.begins moved X, ap (λ (s : ℕ). when (X source) s) (zero-add sent))

pub only_there : (sink sent v : ℕ) → v ≢ sink → gained nothing sink sent v ≡ 0
only_there sink sent v ne = omega (arith, ap (λ (b : Bool). when b sent) (ne_eqb v sink ne))
