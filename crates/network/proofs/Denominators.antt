-- The laws of boundaries and denominators.
-- Assumes nothing.
use Rattle.std.proofs.Common.{◌≡◌, ℕ, ◌+◌, ◌-◌, ◌*◌, ◌≤◌, min, Bool, true, false, not, ◌&&◌, List, [], ◌∷◌, ℤ, pos, ◌+ℤ◌, ◌-ℤ◌, ◌≤ℤ◌, sum_by, sym, refl, ap, subst, ⊎_elim, mul-le-mul_right, arith}
use Rattle.std.proofs.lemmas.Int.{ints, clamps}
use Rattle.std.proofs.lemmas.List.Sums.{sum_by-cons}
use Rattle.std.proofs.lemmas.Bool.{cases_lt}
use Rattle.std.specs.Int.{int_max}
use Rattle.network.specs.declared.pipe.Pipe.{Pipe}
use Rattle.network.specs.Laws.{BoundaryOfComplement, LargestDenominator, NaturalForm, OppositeDenominators, WithinLighterSide}
use Rattle.network.specs.Net.{Net, Nodes, adds, complement, cost_across, exactly_one, lighter, weight, when, without}
use Rattle.network.specs.Scores.{denominator, inside, outside, positive_denominator, remainder}
use Rattle.network.proofs.Weights.{insides, joined, outsides, parts}

-- a pipe crosses a set just where it crosses the complement
both_turned : (x y : Bool) → exactly_one (not x) (not y) ≡ exactly_one x y
both_turned true true = refl
both_turned true false = refl
both_turned false true = refl
both_turned false false = refl

adds_same : (X : Nodes) (p : Pipe ℕ) → adds (complement X) p ≡ adds X p
adds_same X p = ap (λ (b : Bool). when b p.cost) (both_turned (X p.first) (X p.second))

across_same : (X : Nodes) (ps : List (Pipe ℕ)) → sum_by (adds (complement X)) ps ≡ sum_by (adds X) ps
across_same X [] = refl
across_same X (p ∷ ps) = omega (arith, across_same X ps, adds_same X p, sum_by-cons (adds (complement X)) p ps, sum_by-cons (adds X) p ps)

pub boundary_of_complement : BoundaryOfComplement
unfolding cost_across
boundary_of_complement net X = across_same X net.pipes

-- a is the proposal's weight and b the remainder's; a set has i inside and o outside, its complement j and p
module _ (a b i j o p : ℕ) (e : i + j ≡ a) (f : o + p ≡ b) where
  zero_sum : (pos (b * i) -ℤ pos (a * o)) +ℤ (pos (b * j) -ℤ pos (a * p)) ≡ pos 0
  zero_sum = omega (arith, ints, ap (λ (z : ℕ). b * z) e, ap (λ (z : ℕ). a * z) f)

  at_most_own : (pos (b * i) -ℤ pos (a * o)) ≤ℤ pos (a * b)
  at_most_own = omega (arith, ints, ap (λ (z : ℕ). b * z) e)

  below_set : (pos (b * i) -ℤ pos (a * o)) ≤ℤ pos (b * (i + o))
  below_set = omega (arith, ints)

  below_rest : a ≤ b → (pos (b * i) -ℤ pos (a * o)) ≤ℤ pos (b * (j + p))
  below_rest h = omega (arith, ints, ap (λ (z : ℕ). b * z) e, ap (λ (z : ℕ). a * z) f, mul-le-mul_right p h)

at_lighter : (z : ℤ) (b x y : ℕ) → z ≤ℤ pos (b * x) → z ≤ℤ pos (b * y) → z ≤ℤ pos (b * min x y)
at_lighter z b x y h k =
    ⊎_elim
    (λ l. let m : min x y ≡ x = omega arith in subst (λ (n : ℕ). z ≤ℤ pos (b * n)) (sym m) h)
    (λ l. let m : min x y ≡ y = omega arith in subst (λ (n : ℕ). z ≤ℤ pos (b * n)) (sym m) k) (cases_lt x y)

natural : (m n : ℕ) → pos (m - n) ≡ int_max (pos 0) (pos m -ℤ pos n)
natural m n = omega (arith, ints, clamps)

pub natural_form : NaturalForm
unfolding positive_denominator denominator
natural_form net A X = natural _ _

pub opposite_denominators : OppositeDenominators
unfolding denominator
opposite_denominators net A X = zero_sum _ _ _ _ _ _ (insides net A X) (outsides net A X)

module _ (net : Net) (A : Nodes) where
  none_outside : outside net A A ≡ 0
  unfolding outside
  none_outside = omega (arith, joined net A (without A A) A (λ v w. split (A v) w))
    where
      split : (a : Bool) (w : ℕ) → when a w + when (a && not a) w ≡ when a w
      split a w = grind arith

  own_denominator : denominator net A A ≡ pos (weight net A * remainder net A)
  unfolding denominator
  own_denominator =
      let all : inside net A A ≡ weight net A = omega (arith, parts net A A, none_outside) in
      simp (all, none_outside) (omega (arith, ints))

  most_denominator : (X : Nodes) → denominator net A X ≤ℤ denominator net A A
  unfolding denominator
  most_denominator X =
      subst (λ (z : ℤ). denominator net A X ≤ℤ z) (sym own_denominator)
      (at_most_own (weight net A) (remainder net A) _ _ (outside net A X) _ (insides net A X) (outsides net A X))

pub largest_denominator : LargestDenominator
largest_denominator net A = record { own = own_denominator net A; most = most_denominator net A }

pub within_lighter_side : WithinLighterSide
unfolding denominator lighter
within_lighter_side net A X h =
    let b = remainder net A in
    let i = insides net A X in
    let o = outsides net A X in
    at_lighter (denominator net A X) b (weight net X) (weight net (complement X))
    (subst (λ (n : ℕ). denominator net A X ≤ℤ pos (b * n)) (parts net A X) (below_set _ b _ _ _ _ i o))
    (subst (λ (n : ℕ). denominator net A X ≤ℤ pos (b * n)) (parts net A (complement X)) (below_rest _ b _ _ _ _ i o h))
