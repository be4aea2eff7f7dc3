-- The first fault of a list of records, as a loop over them finds it.
-- Assumes nothing.
use Rattle.std.proofs.Common.{◌≡◌, ℕ, ◌+◌, ◌*◌, ◌<◌, ◌≤◌, List, [], length, get_or, drop, Some, None, Ok, Err, Option, Result, sym, refl, ap, ◌∙◌, arith}
use Rattle.std.proofs.lemmas.List.{drop_more, drop_all, get_or_read}
use Rattle.faults.specs.declared.fault.Fault.{Fault}
use Rattle.network.specs.Refusals.{answer, or_else}
use Rattle.netfile.specs.Meaning.{at_place, first_fault}

-- what an answer says of the fault that was due
answered_err : {T : Type 0} (o : Option Fault) (x : T) (f : Fault) → answer o x ≡ Err f → o ≡ Some f
answered_err (Some g) x f e = cc
answered_err None x f e = let z : ◌≡◌ {A = ℕ} 0 1 = cc in absurd (omega arith)

pub answered_ok : {T : Type 0} (o : Option Fault) (x y : T) → answer o x ≡ Ok y → (o ≡ None) × (x ≡ y)
answered_ok (Some g) x y e = let z : ◌≡◌ {A = ℕ} 0 1 = cc in absurd (omega arith)
answered_ok None x y e = (refl, cc)

module _ (fault : List ℕ → Option Fault) (size place : ℕ) (records : List (List ℕ)) where
  -- no fault among the first i records: the first fault is that of the others
  pub record Scanned (i : ℕ) : Type 0 where
    pub rest : first_fault fault size (place + size * i) (drop i records) ≡ first_fault fault size place records

  -- the first fault of what is left, by the next record
  unfolded : (i : ℕ) → i < length records →
      first_fault fault size (place + size * i) (drop i records)
      ≡ or_else (at_place (place + size * i) (fault (get_or records i []))) (first_fault fault size (place + size * (i + 1)) (drop (i + 1) records))
  unfolding first_fault
  unfolded i l =
      let e : place + size * i + size ≡ place + size * (i + 1) = omega arith in
      rw (drop_more records i [] l, e) refl

  -- r is the answer of the test of record i, which is x and begins at p
  module _ (i : ℕ) (l : i < length records) (x : List ℕ) (is : x ≡ get_or records i x) (p : ℕ) (begins : p ≡ place + size * i)
      (r : Result (Unit {0}) Fault) (tested : r ≡ answer (at_place p (fault x)) tt) (s : Scanned i) where
    rest : or_else (at_place p (fault x)) (first_fault fault size (place + size * (i + 1)) (drop (i + 1) records)) ≡ first_fault fault size place records
    rest = rw (get_or_read records i x l is [], begins) (sym (unfolded i l) ∙ s.rest)

    pub scanned_more : r ≡ Ok tt → Scanned (i + 1)
    scanned_more ok = record { rest = rw (answered_ok _ _ _ (sym tested ∙ ok)).0 at rest }

    pub scanned_err : (f : Fault) → r ≡ Err f → Err f ≡ answer (first_fault fault size place records) (tt {0})
    scanned_err f err = ap (λ o. answer o (tt {0})) (rw (answered_err _ _ f (sym tested ∙ err)) at rest)

  pub scanned_ok : (i : ℕ) → length records ≤ i → Scanned i → Ok (tt {0}) ≡ answer (first_fault fault size place records) tt
  unfolding first_fault
  scanned_ok i l s = ap (λ o. answer o (tt {0})) (ap (first_fault fault size (place + size * i)) (sym (drop_all i records l)) ∙ s.rest)
