use Rattle.std.proofs.Common.{◌≡◌, ℕ, ◌+◌, ◌*◌, vec_items, vec_len, vec_capacity}
use Rattle.residual.specs.declared.laying.Pair.{Pair}
use Rattle.residual.specs.Laid.{IsRule, with_pairs}
use Rattle.residual.proofs.laying.add_pairs.Given as goal

abbrev pub invariant-loop-i : goal.invariant-loop-i
invariant-loop-i g l =
    ((pair_of : ℕ → _ → Pair) (d : _) → IsRule (goal.F-post g l.rule) pair_of
    → vec_items l.arcs ≡ with_pairs pair_of d (vec_items l.initial.arcs) l.items l.i)
    × (vec_len l.arcs ≡ vec_len l.initial.arcs + 2 * l.i)
    × (vec_capacity l.arcs ≡ vec_capacity l.initial.arcs)
