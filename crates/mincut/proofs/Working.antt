-- The flow networks worked by hand, computed.
-- Assumes nothing.
use Rattle.std.proofs.Common.{◌≡◌, zero, suc, ◌<◌, ◌≤◌, false, [], ◌∷◌, refl, ⊎_elim, arith}
use Rattle.std.proofs.lemmas.Bool.{cases_Bool, false≢true}
use Rattle.network.specs.Net.{Nodes, below, set_of, weight_in}
use Rattle.mincut.specs.Flow.{Contained, MinimumCut, capacity, total_capacity}
use Rattle.network.specs.Net.{cost_across}
use Rattle.mincut.specs.Worked.{Worked, line}

at_least : (Y : Nodes) → 10 ≤ capacity line Y
unfolding below weight_in cost_across capacity
at_least Y = grind arith

without_first : (Y : Nodes) → Y 0 ≡ false → 10 < capacity line Y
unfolding below weight_in cost_across capacity
without_first Y e = grind arith

-- every minimum cut has node 0
first_contained : (Y : Nodes) → MinimumCut line Y → Contained 4 (set_of (1 ∷ 0 ∷ 0 ∷ 0 ∷ [])) Y
unfolding below weight_in cost_across capacity
first_contained Y m zero h e = ⊎_elim (λ y. y) (λ n. absurd (omega (arith, without_first Y n, m (set_of (1 ∷ 0 ∷ 0 ∷ 0 ∷ []))))) (cases_Bool (Y 0))
first_contained Y m (suc zero) h e = absurd (false≢true e)
first_contained Y m (suc (suc zero)) h e = absurd (false≢true e)
first_contained Y m (suc (suc (suc zero))) h e = absurd (false≢true e)
first_contained Y m (suc (suc (suc (suc v)))) h e = absurd (omega arith)

pub worked : Worked
unfolding below weight_in cost_across capacity total_capacity
worked = record {
  nothing = refl;
  first = refl;
  apart = refl;
  front = refl;
  smallest = record { least = at_least; smallest = first_contained };
  larger = at_least;
  fits = refl;
  short = refl;
  full = refl;
  over = refl;
  both = refl;
}
