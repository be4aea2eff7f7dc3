-- What the first fault of some records says of each: that none has a fault, or which is the first that has one.
-- Assumes nothing.
use Rattle.std.proofs.Common.{◌≡◌, ℕ, zero, suc, ◌+◌, ◌*◌, ◌<◌, List, [], ◌∷◌, map, length, get_or, Some, None, Option, sym, refl, ap, ◌∙◌, arith}
use Rattle.std.specs.List.{AllByRecursion}
use Rattle.faults.specs.Faults.{file_fault}
use Rattle.faults.specs.declared.fault.Fault.{Fault}
use Rattle.network.proofs.Accepting.{both_passed}
use Rattle.network.specs.Refusals.{or_else}
use Rattle.netfile.specs.Laws.{FirstFaultyRecord, OfFirstFaulty}
use Rattle.netfile.specs.Meaning.{at_place, first_fault}
use Rattle.netfile.specs.Records.{RecordLaws}

unplaced : (place : ℕ) (o : Option Fault) → at_place place o ≡ None → o ≡ None
unplaced place (Some f) e = let z : ◌≡◌ {A = ℕ} 0 1 = cc in absurd (omega arith)
unplaced place None e = refl

-- values that are read from records of one kind, and the fault of each
module _ {X : Type 0} (fault : X → Option Fault) (size : ℕ) (read : List ℕ → X) where
  pub each_faultless : (place : ℕ) (records : List (List ℕ)) → first_fault (λ r. fault (read r)) size place records ≡ None → AllByRecursion (λ x. fault x ≡ None) (map read records)
  unfolding first_fault
  each_faultless place [] e = tt
  each_faultless place (r ∷ rs) e =
      let (f, g) = both_passed _ _ e in
      (unplaced place (fault (read r)) f, each_faultless (place + size) rs g)

  pub written_faultless : (written : X → List ℕ) → RecordLaws size read written → (place : ℕ) (xs : List X) → AllByRecursion (λ x. fault x ≡ None) xs →
      first_fault (λ r. fault (read r)) size place (map written xs) ≡ None
  unfolding first_fault
  written_faultless written laws place [] h = refl
  written_faultless written laws place (x ∷ xs) h = rw (laws.read_back x, h.0) (written_faultless written laws (place + size) xs h.1)

-- what holds of the first record and of k more holds of the first k + 1
one_more : (P : List ℕ → Type 0) (r : List ℕ) (rs : List (List ℕ)) (k : ℕ) → P r → ((i : ℕ) → i < k → P (get_or rs i [])) → (i : ℕ) → i < suc k → P (get_or (r ∷ rs) i [])
one_more P r rs k h hs zero l = h
one_more P r rs k h hs (suc i) l = hs i (omega arith)

-- the first fault is that of the first faulty record
module _ (fault : List ℕ → Option Fault) (size : ℕ) where
  -- by whether the first record has a fault, where the others are known
  found_at : (place : ℕ) (r : List ℕ) (rs : List (List ℕ)) (f : Fault) (o : Option Fault) → fault r ≡ o →
      (first_fault fault size (place + size) rs ≡ Some f → OfFirstFaulty fault size (place + size) rs f) →
      or_else (at_place place o) (first_fault fault size (place + size) rs) ≡ Some f → OfFirstFaulty fault size place (r ∷ rs) f
  found_at place r rs f (Some g) due others e =
      let here : f ≡ file_fault g.refusal place = cc in
      let p : place ≡ place + size * 0 = omega arith in
      record {
        index = 0;
        inside = omega arith;
        reason = g;
        due = due;
        named = here ∙ ap (file_fault g.refusal) p;
        earlier = (λ i l. absurd (omega arith));
      }
  found_at place r rs f None due others e =
      let h = others e in
      let k = h.index in
      let p : place + size + size * k ≡ place + size * suc k = omega arith in
      record {
        index = suc k;
        inside = omega (arith, h.inside);
        reason = h.reason;
        due = h.due;
        named = h.named ∙ ap (file_fault h.reason.refusal) p;
        earlier = one_more (λ x. fault x ≡ None) r rs k due h.earlier;
      }

  found : (place : ℕ) (records : List (List ℕ)) (f : Fault) → first_fault fault size place records ≡ Some f → OfFirstFaulty fault size place records f
  unfolding first_fault
  found place [] f e = let z : ◌≡◌ {A = ℕ} 0 1 = cc in absurd (omega arith)
  found place (r ∷ rs) f e = found_at place r rs f (fault r) refl (found (place + size) rs f) e

  finds : (place : ℕ) (records : List (List ℕ)) (f g : Fault) (k : ℕ) → k < length records → fault (get_or records k []) ≡ Some g →
      f ≡ file_fault g.refusal (place + size * k) → ((i : ℕ) → i < k → fault (get_or records i []) ≡ None) → first_fault fault size place records ≡ Some f
  unfolding first_fault
  finds place [] f g k l due named earlier = absurd (omega arith)
  finds place (r ∷ rs) f g zero l due named earlier =
      let p : place + size * 0 ≡ place = omega arith in
      rw due (sym (ap Some (named ∙ ap (file_fault g.refusal) p)))
  finds place (r ∷ rs) f g (suc k) l due named earlier =
      let p : place + size * suc k ≡ place + size + size * k = omega arith in
      rw (earlier 0 (omega arith))
      (finds (place + size) rs f g k (omega arith) due (named ∙ ap (file_fault g.refusal) p) (λ i h. earlier (suc i) (omega arith)))

pub first_faulty_record : FirstFaultyRecord
first_faulty_record fault size place records f = (
  found fault size place records f,
  (λ h. finds fault size place records f h.reason h.index h.inside h.due h.named h.earlier),
)
