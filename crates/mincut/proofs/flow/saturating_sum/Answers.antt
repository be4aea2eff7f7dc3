use Rattle.std.proofs.Common.{◌-◌, ◌^◌, ◌+◌, min, rules, refl, ◌∙◌}
use Rattle.std.proofs.lemmas.Fn.{says_at}
use Rattle.std.proofs.lemmas.Iterator.{YieldsList-from_slice}
use Rattle.std.proofs.lemmas.Iterator.Adapters.{serves_from_places}
use Rattle.std.proofs.lemmas.Iterator.Consumers.{fold_from_yields_List}
use Rattle.mincut.proofs.Checking.{capped, mapped}
use Rattle.mincut.proofs.flow.saturating_sum.Goals as goal

pub fold-requires-clause-can : goal.fold-requires-clause-can
fold-requires-clause-can g c = (tt, serves_from_places (YieldsList-from_slice c.args.items.now (cc)) (λ x q r. search rules) (λ x k h e. search rules))

pub returns : goal.returns
returns g c amount each =
    fold_from_yields_List _ (λ s x. min (s + x) (2 ^ 64 - 1)) 0 c.fold.result c.fold.ensures.ran
    (mapped g.F.Fn amount _ (YieldsList-from_slice c.args.items.now (cc)) c.map.ensures.closure
    (λ x r q i k. (search rules, each x.now r i (says_at g.F.Fn {y = x} (search rules) refl))))
    (λ a x b q k. search rules)
    ∙ capped amount (2 ^ 64 - 1) 0 c.args.items.now
