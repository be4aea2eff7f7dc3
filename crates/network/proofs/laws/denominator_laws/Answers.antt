use Rattle.network.proofs.Denominators.{largest_denominator, natural_form, opposite_denominators, within_lighter_side}
use Rattle.network.proofs.laws.denominator_laws.Goals as goal

pub returns : goal.returns
returns c = record { opposite = opposite_denominators; largest = largest_denominator; lighter = within_lighter_side; natural = natural_form }
