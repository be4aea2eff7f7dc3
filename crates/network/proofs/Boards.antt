-- The boards worked by hand, computed.
-- Assumes nothing.
use Rattle.std.proofs.Common.{refl}
use Rattle.network.specs.Net.{below, cost_across, lighter, weight_in}
use Rattle.network.specs.Scores.{denominator, inside, outside, remainder}
use Rattle.network.specs.Worked.{Worked}

pub worked : Worked
unfolding below weight_in cost_across lighter remainder inside outside denominator
worked = record {
  corner = refl;
  triangle = refl;
  others = refl;
  half = refl;
  apart = refl;
  end = refl;
  front = refl;
  alone = refl;
  nothing = refl;
  heavy = refl;
  heavier = refl;
  dear = refl;
  dearer = refl;
}
