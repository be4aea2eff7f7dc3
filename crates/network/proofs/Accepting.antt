-- That an edit is accepted exactly where it keeps the limits.
-- Assumes nothing.
use Rattle.std.proofs.Common.{◌≡◌, ℕ, ◌<◌, ◌≤◌, Bool, true, false, [], ◌∷◌, length, Some, None, Option, refl, arith, length-append}
use Rattle.std.proofs.lemmas.Bool.{leb-false, ltb-false, lt-leb, le-ltb, ne_eqb, eqb-false, or_from, or_parts}
use Rattle.faults.specs.declared.fault.Fault.{Fault}
use Rattle.network.specs.declared.pipe.Pipe.{Pipe}
use Rattle.network.specs.Edits.{bad_ends, outside_limits, pipe_fault, weight_fault}
use Rattle.network.specs.Edits.Edit.{add, weigh, join, remove}
use Rattle.network.specs.Laws.{AcceptedWithinLimits}
use Rattle.network.specs.Limits.{PipeFits, WeightFits, no_pipe}
use Rattle.network.specs.Refusals.{fault_if, or_else}
use Rattle.network.proofs.Keeps.{add_keeps, join_keeps, pushed_fits, remove_keeps, weigh_keeps, written_fits}

refused : (f : Fault) → Some f ≡ None → ⊥
refused f e = let z : ◌≡◌ {A = ℕ} 0 1 = cc in omega arith

-- a call goes on just where the condition fails and nothing later refuses it
pub passed : (b : Bool) (f : Fault) (later : Option Fault) → fault_if b f later ≡ None → (b ≡ false) × (later ≡ None)
passed true f later e = absurd (refused f e)
passed false f later e = (refl, e)

pub passes : (b : Bool) (f : Fault) (later : Option Fault) → b ≡ false → later ≡ None → fault_if b f later ≡ None
passes b f later e n = rw e n

within_limits : (low high x : ℕ) → outside_limits low high x ≡ false → (low ≤ x) × (x ≤ high)
within_limits low high x e = let p = or_parts _ _ e in (ltb-false x low p.0, ltb-false high x p.1)

not_outside : (low high x : ℕ) → low ≤ x → x ≤ high → outside_limits low high x ≡ false
not_outside low high x h k = or_from _ _ (le-ltb x low h) (le-ltb high x k)

good_ends : (n a b : ℕ) → bad_ends n a b ≡ false → (a < n) × (b < n) × (a ≡ b → ⊥)
good_ends n a b e =
    let (p, q) = or_parts _ _ e in
    let (r, s) = or_parts _ _ q in
    (leb-false n a p, leb-false n b r, eqb-false a b s)

not_bad : (n a b : ℕ) → a < n → b < n → (a ≡ b → ⊥) → bad_ends n a b ≡ false
not_bad n a b p q r = or_from _ _ (lt-leb n a p) (or_from _ _ (lt-leb n b q) (ne_eqb a b r))

-- one of two faults is due just where either is
pub both_passed : (f later : Option Fault) → or_else f later ≡ None → (f ≡ None) × (later ≡ None)
both_passed (Some f) later e = absurd (refused f e)
both_passed None later e = (refl, e)

both_pass : (f later : Option Fault) → f ≡ None → later ≡ None → or_else f later ≡ None
both_pass (Some f) later e n = absurd (refused f e)
both_pass None later e n = n

-- a weight and a pipe have no fault just where they fit
pub weight_fits : (w : ℕ) → weight_fault w ≡ None → WeightFits w
weight_fits w e = within_limits _ _ w (passed _ _ _ e).0

pub weight_faultless : (w : ℕ) → WeightFits w → weight_fault w ≡ None
weight_faultless w f = passes _ _ _ (not_outside _ _ w f.0 f.1) refl

pub pipe_fits : (n : ℕ) (p : Pipe ℕ) → pipe_fault n p ≡ None → PipeFits n p
pipe_fits n p e =
    let (ends, f) = passed _ _ _ e in
    let (a, b, apart) = good_ends n p.first p.second ends in
    let (low, high) = within_limits _ _ p.cost (passed _ _ _ f).0 in
    (a, b, apart, low, high)

pub pipe_faultless : (n : ℕ) (p : Pipe ℕ) → PipeFits n p → pipe_fault n p ≡ None
pipe_faultless n p f =
    passes _ _ _ (not_bad n p.first p.second f.0 f.1 f.2) (passes _ _ _ (not_outside _ _ p.cost f.3 f.4) refl)

pub accepted_within_limits : AcceptedWithinLimits
accepted_within_limits net (add w) h = (
  (λ e. let (room, f) = passed _ _ _ e in (tt, add_keeps _ _ _ w refl h (leb-false _ _ room) (weight_fits w f))),
  (λ k. let (_, l) = k in
      let f = pushed_fits WeightFits 0 net.weights w l.2 in
      passes _ _ _ (lt-leb _ _ (omega (arith, l.0, length-append net.weights (w ∷ [])))) (weight_faultless w f)),
)
accepted_within_limits net (weigh v w) h = (
  (λ e. let (f, there) = both_passed _ _ e in (leb-false _ _ (passed _ _ _ there).0, weigh_keeps _ _ v w h (weight_fits w f))),
  (λ k. let (there, l) = k in
      let f = written_fits WeightFits 0 net.weights v w there l.2 in
      both_pass _ _ (weight_faultless w f) (passes _ _ _ (lt-leb _ _ there) refl)),
)
accepted_within_limits net (join a b c) h =
    let n = length net.weights in
    let p : Pipe ℕ = record { first = a; second = b; cost = c } in (
      (λ e. let (room, f) = passed _ _ _ e in (tt, join_keeps _ _ _ _ refl h (leb-false _ _ room) (pipe_fits n p f))),
      (λ k. let (_, l) = k in
          let f = pushed_fits (PipeFits n) no_pipe net.pipes p l.3 in
          passes _ _ _ (lt-leb _ _ (omega (arith, l.1, length-append net.pipes (p ∷ [])))) (pipe_faultless n p f)),
    )
accepted_within_limits net (remove p) h =
    ((λ e. let there = leb-false _ _ (passed _ _ _ e).0 in (there, remove_keeps _ _ _ p refl h)), (λ k. passes _ _ _ (lt-leb _ _ k.0) refl))
