use Rattle.std.proofs.Common.{◌≡◌, ◌<◌, List, length, get_or, vec_items, refl, ap, ◌∙◌, arith}
use Rattle.std.proofs.lemmas.List.{get_or_default}
use Rattle.residual.specs.declared.arcs.Arc.{Arc}
use Rattle.residual.specs.declared.laying.Pair.{Pair}
use Rattle.residual.specs.Laid.{with_pair, with_pairs}
use Rattle.residual.proofs.Building.{pairs_next, pairs_start}
use Rattle.residual.proofs.laying.add_pairs.Goals as goal

pub loop-i-init : goal.loop-i-init
loop-i-init g c = (λ pair_of d h. pairs_start pair_of d c.args.items.now (vec_items c.args.arcs.now), omega arith, refl)

pub loop-i-preserved : goal.loop-i-preserved
loop-i-preserved g c =
    let p = c.add_pair.ensures in
    let i = c.loop-i.i in
    let xs = c.args.items.now in
    let old : List Arc = vec_items c.args.arcs.now in (
      λ pair_of d h.
          let lt : i < length xs = omega arith in
          let item : c.index-items-i.result ≡ get_or xs i d = c.index-items-i.is ∙ get_or_default xs i c.index-items-i.result d lt in
          let is : c.rule.result ≡ pair_of i (get_or xs i d) = h i c.index-items-i.result c.rule.result c.rule.ensures ∙ ap (pair_of i) item in
          p.items ∙ ap (λ (l : List Arc). with_pair l c.rule.result.from c.rule.result.to c.rule.result.forth c.rule.result.back) (c.loop-i.invariant.0 pair_of d h)
          ∙ ap (λ (q : Pair). with_pair (with_pairs pair_of d old xs i) q.from q.to q.forth q.back) is ∙ pairs_next pair_of d xs old i,
      omega (arith, p.len),
      p.capacity ∙ c.loop-i.invariant.2,
    )
