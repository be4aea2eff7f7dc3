-- What the calls that take marks answer.
-- Assumes nothing.
use Rattle.std.specs.Prelude.{ℕ, List, ℤ, Option, Result}
use Rattle.faults.specs.declared.fault.Fault.{Fault}
use Rattle.network.specs.Marks.{marks_fault}
use Rattle.network.specs.Net.{Net, count, set_of, weight, boundary}
use Rattle.network.specs.Refusals.{answer, or_else}
use Rattle.network.specs.Scores.{quotient, relative}

module _ (net : Net) where
  -- the fault of marks for the nodes of the network, if there is one
  abbrev pub misfit : List ℕ → Option Fault
  misfit marks = marks_fault (count net) marks

  abbrev pub check_answer : List ℕ → Result (Unit {0}) Fault
  check_answer marks = answer (misfit marks) tt

  abbrev pub weight_answer : List ℕ → Result ℕ Fault
  weight_answer marks = answer (misfit marks) (weight net (set_of marks))

  abbrev pub boundary_answer : List ℕ → Result ℕ Fault
  boundary_answer marks = answer (misfit marks) (boundary net (set_of marks))

  abbrev pub quotient_answer : List ℕ → Result (ℕ × ℕ) Fault
  quotient_answer marks = answer (misfit marks) (quotient net (set_of marks))

  -- the proposal's marks are tested before the set's
  abbrev pub relative_answer : List ℕ → List ℕ → Result (ℕ × ℤ) Fault
  relative_answer proposal marks = answer (or_else (misfit proposal) (misfit marks)) (relative net (set_of proposal) (set_of marks))
