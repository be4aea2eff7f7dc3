-- The table of arcs, what leaves a set of vertices, and a push along an arc.
-- Assumes nothing.
use Rattle.std.specs.Prelude.{◌≡◌, ℕ, ◌+◌, ◌-◌, ◌%◌, ◌^◌, ◌<◌, Bool, if◌then◌else◌, not, ◌&&◌, List, length, sum_by, ◌==◌, slice_index_or, slice_set}
use Rattle.network.specs.Net.{when}
use Rattle.residual.specs.declared.arcs.Arc.{Arc}

-- a set of vertices, which are the nodes, the source and the sink
abbrev pub Vertices : Type 0
Vertices = ℕ → Bool

-- what stands for an arc past the last one
abbrev pub no_arc : Arc
no_arc = record { from = 0; to = 0; remaining = 0 }

abbrev pub arc_at : List Arc → ℕ → Arc
arc_at arcs i = slice_index_or arcs i no_arc

-- the number of the arc that runs against arc i
abbrev pub reverse : ℕ → ℕ
reverse i = if i % 2 == 0 then i + 1 else i - 1

-- the same arc with another residual capacity
abbrev pub holding : Arc → ℕ → Arc
holding a n = record { from = a.from; to = a.to; remaining = n }

-- the table after d was sent along arc i: it can take d less, and its reverse d more
abbrev pub pushed : List Arc → ℕ → ℕ → List Arc
pushed arcs i d =
    slice_set (slice_set arcs i (holding (arc_at arcs i) ((arc_at arcs i).remaining - d)))
    (reverse i) (holding (arc_at arcs (reverse i)) ((arc_at arcs (reverse i)).remaining + d))

-- what the arc adds to the residual capacity of X: its own where it leaves X
abbrev pub leaves : Vertices → Arc → ℕ
leaves X a = when (X a.from && not (X a.to)) a.remaining

-- the residual capacity of X: what is left on the arcs that leave it
unfoldable pub residual : Vertices → List Arc → ℕ
residual X arcs = sum_by (leaves X) arcs

-- what is left on all arcs
unfoldable pub total : List Arc → ℕ
total arcs = sum_by (λ a. a.remaining) arcs

-- arc i has a reverse in the table, which runs between the same vertices the other way
pub record Paired (arcs : List Arc) (i : ℕ) : Type 0 where
  pub there : reverse i < length arcs
  pub from : (arc_at arcs (reverse i)).from ≡ (arc_at arcs i).to
  pub to : (arc_at arcs (reverse i)).to ≡ (arc_at arcs i).from

-- d more went from u to v
abbrev pub Moved : List Arc → List Arc → ℕ → ℕ → ℕ → Type 0
Moved old new u v d = (X : Vertices) → residual X new + when (X u) d ≡ residual X old + when (X v) d

-- every arc is paired and runs between vertices below n, and all that they can take fits 64 bits
pub record Table (arcs : List Arc) (n : ℕ) : Type 0 where
  pub paired : (k : ℕ) → k < length arcs → Paired arcs k
  pub from : (k : ℕ) → k < length arcs → (arc_at arcs k).from < n
  pub to : (k : ℕ) → k < length arcs → (arc_at arcs k).to < n
  pub small : total arcs < 2 ^ 64

-- the two tables have the same arcs, whatever these can take
pub record Alike (old new : List Arc) : Type 0 where
  pub long : length new ≡ length old
  pub from : (k : ℕ) → (arc_at new k).from ≡ (arc_at old k).from
  pub to : (k : ℕ) → (arc_at new k).to ≡ (arc_at old k).to
