use Rattle.std.proofs.Common.{◌≡◌, ◌<◌, ℕ, cond, rules, Bool, false, List, length, get_or, vec_items, sym, ◌∙◌, subst, arith}
use Rattle.std.proofs.lemmas.List.{with_items_is}
use Rattle.std.specs.Vec.{with_items}
use Rattle.mincut.proofs.Checking.{accepted}
use Rattle.residual.specs.declared.arcs.Arc.{Arc}
use Rattle.residual.specs.Laid.{source_of}
use Rattle.residual.specs.Reach.{Reached}
use Rattle.residual.proofs.Cutting.{reached_is_smallest}
use Rattle.residual.proofs.marking.Marker.mark.Goals as goal

pub returns : goal.returns
returns c net sent none done =
    let ok = accepted net (length c.args.marks.now) none in
    let arcs = c.args.graph.now.arcs.items in
    let seen : List Bool = vec_items (with_items c.args.self.now.seen c.reach.new.seen) in
    let same : seen ≡ c.reach.new.seen = with_items_is c.args.self.now.seen c.reach.new.seen (omega (arith, c.as_mut_slice.ensures.len)) in
    let here = subst (λ (l : List Arc). Reached l c.args.graph.now.nodes (λ v. get_or c.reach.new.seen v false)) c.lent.ensures.arcs
    (subst (λ (s : ℕ). Reached c.lent.result.arcs.now s (λ v. get_or c.reach.new.seen v false)) c.lent.ensures.nodes c.reach.ensures) in
    let reached = subst (λ (l : List Bool). Reached arcs c.args.graph.now.nodes (λ v. get_or l v false)) (sym same) here in
    let each : (v : ℕ) → v < length c.write_marks.new.marks → get_or c.write_marks.new.marks v 0 ≡ cond (get_or seen v false) 1 0 = λ v lt. search (c.write_marks.ensures, rules) in
    reached_is_smallest net arcs sent (λ v. get_or seen v false) c.args.marks.now c.write_marks.new.marks none (omega arith) done
    (subst (λ (n : ℕ). Reached arcs (source_of n) (λ v. get_or seen v false)) (sym c.requires ∙ ok.marks) reached) each
